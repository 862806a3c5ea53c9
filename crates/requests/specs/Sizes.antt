-- What `sizes_needed` answers, in document 01's terms. Rests on what a header asks for.
use Rattle.std.specs.Prelude.{Result, Ok, Err}
use Rattle.answers.specs.declared.Refusal.{Refusal}
use Rattle.answers.specs.Refusal.{rule_of}
use Rattle.answers.specs.Told.{Told, refused}
use Rattle.limits.specs.declared.Lengths.{Lengths}
use Rattle.limits.specs.Sizes.{asking}

-- What an answer says.
abbrev pub told_by_sizes : Result Lengths Refusal → Told
told_by_sizes (Ok lengths) = asking lengths
told_by_sizes (Err r) = refused (rule_of r)
