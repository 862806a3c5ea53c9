-- `input::to_words` meets its contract: before word k, what is left of the words is still to write.
-- Rests on Handed and lists' Filled.
use mathlib.Core.Path.{◌≡◌, sym, ◌∙◌}
use mathlib.Core.List.{List, ◌++◌, append-nil}
use Prim.Native.Nat.{ℕ, ◌<◌, ◌≤◌}
use native.Mathlib.Omega.{arith}
use lib.ListN.{length, drop, take, drop_of_length-le}
use lib.Seq.{length-take-le}
use Rattle.lists.specs.Buffers.{overwritten}
use Rattle.lists.proofs.Filled.{Filling, again, done}
use Rattle.printing.proofs.Handed.{whole_length, whole_at}
use Rattle.input.proofs.to_words.Goals as goal

-- A buffer's first places, filled, are what is written to its start.
front : (xs ys items : List ℕ) (n k : ℕ) → n ≡ length xs → n ≤ length ys → n ≤ k → Filling xs (take n ys) items k
    → items ++ drop n ys ≡ overwritten xs ys
front xs ys items n k e h l f =
    let long : length (take n ys) ≡ n = length-take-le n ys h in
    let none = drop_of_length-le (take n ys) {i = length xs} (omega arith) in
    let all = done xs (take n ys) items k (omega arith) (omega arith) f in
    rw (all, none, append-nil, e)

pub loop-k-preserved : goal.loop-k-preserved
loop-k-preserved c =
    let bytes = c.args.bytes.now in
    let n = c.whole_count-count.result in
    let below : c.loop-k.k < n = omega (arith, length-take-le n c.args.words.now (omega arith)) in
    again _ _ _ c.loop-k.k _ 0 (omega (arith, whole_length bytes)) (c.join_bytes.ensures ∙ sym (whole_at bytes c.loop-k.k (omega arith))) c.loop-k.invariant

pub returns : goal.returns
returns c =
    let n = c.whole_count-count.result in
    let all : n ≤ c.loop-k.k = omega (arith, length-take-le n c.args.words.now (omega arith)) in
    front _ _ _ _ c.loop-k.k (c.whole_count-count.ensures ∙ sym (whole_length c.args.bytes.now)) (omega arith) all c.loop-k.invariant
