-- The words of instructions do to a bank what the instructions do.
-- Rests on words and instructions.
use mathlib.Core.Path.{◌≡◌, refl, ap, ◌∙◌}
use mathlib.Core.List.{List, [], ◌∷◌, map}
use Prim.Native.Nat.{ℕ}
use lib.IntN.{ℤ}
use Rattle.machine.specs.Instruction.{Instruction, All}
use Rattle.machine.specs.Effect.{perform}
use Rattle.machine.specs.Word.{encode, Fits}
use Rattle.machine.specs.Log.{carry, cells_after}
use Rattle.machine.proofs.Encoded.{decode_encode}
use Rattle.methods.specs.Bank.{perform_all}

pub after_words : (is : List (Instruction ℕ)) → All Fits is → (cells : List ℤ)
    → cells_after (map encode is) cells ≡ perform_all is cells
unfolding cells_after perform_all carry
after_words [] fits cells = refl
after_words (i ∷ is) fits cells =
    ap (λ o. cells_after (map encode is) (carry o cells)) (decode_encode i fits.0)
    ∙ after_words is fits.1 (perform i cells)
