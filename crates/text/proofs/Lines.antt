-- The loop that writes numbers as a line: before number i, the line of those from i on is left.
-- Rests on lists' Slices.
use mathlib.Core.Path.{◌≡◌, sym, ap, ◌∙◌}
use mathlib.Core.List.{List, [], ◌∷◌, ◌++◌, map, append_assoc}
use Prim.Native.Nat.{ℕ, ◌+◌, ◌-◌, ◌<◌, ◌≤◌}
use lib.ListN.{length, get_or, drop, length-drop, length-map, drop_of_length-le}
use Rattle.lists.proofs.Slices.{next}
use Rattle.text.specs.Text.{after_word, decimal, line_of, numbers_line}

pub next_number : (ns : List ℕ) (i : ℕ) → i < length ns
    → numbers_line (drop i ns) ≡ (decimal (get_or ns i 0) ++ (after_word (length ns - (i + 1)) ∷ [])) ++ numbers_line (drop (i + 1) ns)
unfolding line_of
next_number ns i h =
    let r = drop (i + 1) ns in
    let left : length (map decimal r) ≡ length ns - (i + 1) = length-map r decimal ∙ length-drop (i + 1) ns in
    ap numbers_line (next ns i 0 h)
    ∙ ap (λ (k : ℕ). decimal (get_or ns i 0) ++ (after_word k ∷ numbers_line r)) left
    ∙ sym (append_assoc (decimal (get_or ns i 0)) _ (numbers_line r))

pub none_left : (ns : List ℕ) (i : ℕ) → length ns ≤ i → numbers_line (drop i ns) ≡ []
unfolding line_of
none_left ns i h = rw (drop_of_length-le ns h)
