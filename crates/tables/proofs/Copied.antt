-- Laws of the loop that repeats a block by copying each word from one block's length before.
-- Rests on Written, and on rows' Blocks and Read.
use mathlib.Core.Path.{◌≡◌, refl, sym, ap, ◌∙◌}
use mathlib.Core.Logic.{⊎_elim}
use mathlib.Core.List.{List, [], ◌∷◌, ◌++◌}
use Prim.Native.Nat.{ℕ, zero, suc, ◌+◌, ◌-◌, ◌*◌, ◌<◌, ◌≤◌}
use native.Mathlib.Nat.{eq-zero-or-pos, mul-zero}
use native.Mathlib.Omega.{arith}
use lib.ListN.{length, get_or, take, set, length-append, get_or-append}
use lib.Seq.{take-suc, take_all, take_at, get_or-take, get_or-append-add, length-take-le}
use Rattle.plans.specs.Blocks.{flat}
use Rattle.rows.proofs.Blocks.{flat_length, flat_front}
use Rattle.rows.proofs.Read.{sets_in}
use Rattle.tables.specs.Writing.{Wrote}
use Rattle.tables.proofs.Written.{one, then, kept}

module _ (ws : List ℕ) where
  abbrev pub copies : ℕ → List ℕ
  copies count = flat count (λ j. ws)

  pub copies_length : (count : ℕ) → length (copies count) ≡ count * length ws
  copies_length = flat_length (length ws) (λ j. ws) (λ j. refl)

  -- A word of a later copy stands in the copy before.
  back : (count n : ℕ) → length ws ≤ n → n < length (copies count) → get_or (copies count) (n - length ws) 0 ≡ get_or (copies count) n 0
  unfolding flat
  back zero n h l = let no : ⊥ = omega arith in absurd no
  back (suc count) n h l =
      let e : length ws + (n - length ws) ≡ n = omega arith in
      let b = length-append (copies count) ws in
      get_or-append (copies count) ws 0 (n - length ws) (omega arith)
      ∙ sym (get_or-append-add ws (copies count) (n - length ws) 0)
      ∙ ap (λ (i : ℕ). get_or (ws ++ copies count) i 0) e
      ∙ ap (λ (l : List ℕ). get_or l n 0) (sym (flat_front (λ j. ws) count))

  -- Where there are copies, there is something in them.
  some_word : (count : ℕ) → 0 < length (copies count) → 0 < length ws
  some_word count h =
      ⊎_elim
      (λ (e : length ws ≡ 0).
      let z : count * length ws ≡ 0 = ap (λ (n : ℕ). count * n) e ∙ mul-zero count in
      omega (arith, copies_length count))
      (λ (l : 0 < length ws). l) (eq-zero-or-pos (length ws))

-- A block of ws stands from `at` to `mid`, and the words up to i are copied.
module _ (count : ℕ) {ws before between : List ℕ} {at mid : ℕ} (p : Wrote ws before between at mid) where
  long : length (copies ws count) ≡ count * (mid - at)
  long = let e : length ws ≡ mid - at = omega (arith, p.ends) in copies_length ws count ∙ ap (λ (n : ℕ). count * n) e

  pub start : 0 < count → Wrote (take (mid - at) (copies ws count)) before between at mid
  start h = rw (first count h) p
    where
      first : (c : ℕ) → 0 < c → take (mid - at) (copies ws c) ≡ ws
      first zero h = let no : ⊥ = omega arith in absurd no
      first (suc c) h = rw (flat_front (λ j. ws) c) (take_at ws (copies ws c) (mid - at) (omega (arith, p.ends)))

  module _ {out : List ℕ} {i : ℕ} (q : Wrote (take (i - at) (copies ws count)) before out at i) (h : mid ≤ i) where
    pub again : i < at + count * (mid - at) → at + count * (mid - at) ≤ length between
        → Wrote (take (i + 1 - at) (copies ws count)) before (set out i (get_or out (i - (mid - at)) 0)) at (i + 1)
    again l r =
        let n : ℕ = i - at in
        let e : i - (mid - at) ≡ at + (n - length ws) = omega (arith, p.ends) in
        let some = some_word ws count (omega (arith, long)) in
        let m = length-take-le n (copies ws count) (omega (arith, long)) in
        let same : get_or out (i - (mid - at)) 0 ≡ get_or (copies ws count) n 0 =
        rw (e, q.written)
        (sets_in (take n (copies ws count)) before at (n - length ws) (omega (arith, p.ends)) (omega (arith, kept p, long))
        ∙ get_or-take n (copies ws count) (n - length ws) 0 (omega (arith, p.ends))
        ∙ back ws count n (omega (arith, p.ends)) (omega (arith, long))) in
        let s : take (i + 1 - at) (copies ws count) ≡ take n (copies ws count) ++ (get_or (copies ws count) n 0 ∷ []) =
        let k : i + 1 - at ≡ suc n = omega (arith, p.ends) in
        rw k (take-suc (copies ws count) n 0 (omega (arith, long))) in
        rw (s, same) (then q (one out i (get_or (copies ws count) n 0)))

    pub finish : at + count * (mid - at) ≤ i → Wrote (copies ws count) before out at i
    finish l = rw (take_all (i - at) (copies ws count) (omega (arith, long))) at q
