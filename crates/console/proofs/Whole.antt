-- A text appended to none stands whole at the buffer's start; and the words of a request are among those that bytes make.
-- Rests on printing's Handed and lists' Filled.
use mathlib.Core.Path.{◌≡◌, sym, ◌∙◌}
use mathlib.Core.List.{List}
use Prim.Native.Nat.{ℕ, ◌≤◌}
use native.Mathlib.Nat.{zero-add}
use native.Mathlib.Omega.{arith}
use lib.ListN.{length, replicate}
use lib.Seq.{length-take-le}
use Rattle.lists.specs.Buffers.{overwritten}
use Rattle.lists.proofs.Filled.{from_start}
use Rattle.text.specs.Text.{Put}
use Rattle.text.specs.Appended.{Appended}
use Rattle.text.specs.declared.Text.{Text}
use Rattle.printing.specs.Bytes.{whole_words, handed_over}
use Rattle.printing.proofs.Handed.{handed_most, whole_length, padded_length}
use Rattle.console.specs.Printed.{Printed}

pub printed : {m n : ℕ} {t before : List ℕ} {a b : Text} → a.buffer.now ≡ before → a.length ≡ 0 → n ≡ b.length → m ≤ length before → Appended m t a b
    → Printed t before b.buffer.now n
printed {m} {n} {t} {before} {a} {b} lent empty ends h q =
    let p : Put m t before b.buffer.now 0 n = rw (lent, empty, ← ends) at q.put in
    let s : n ≡ length t = p.ends ∙ zero-add (length t) in
    let l : n ≤ length b.buffer.now = omega (arith, p.short, p.long) in
    record {
      is = p.written ∙ from_start t before (omega (arith, s, p.short));
      size_is = s;
      counts = (l, sym (length-take-le n b.buffer.now l));
    }

pub inside : (bytes : List ℕ) → handed_over (length bytes) ≤ length (overwritten (whole_words bytes) (replicate 1026 0))
inside bytes = omega (arith, handed_most (length bytes), padded_length 1026 (whole_words bytes) (omega (arith, whole_length bytes)))
