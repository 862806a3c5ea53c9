-- The ops of the code by their codes, the numbers of document 01's table. Rests on the machine's words.
use Rattle.std.specs.Prelude.{ℕ}
use Rattle.ops.specs.declared.Op.{Op}
use Rattle.ops.specs.declared.Op.TheVariants.{Set, Copy, Add, Less, Equal, Both, MoveIf, Open}

abbrev pub code : Op → ℕ
code Set = 0
code Copy = 1
code Add = 2
code Less = 3
code Equal = 4
code Both = 5
code MoveIf = 6
code Open = 7
