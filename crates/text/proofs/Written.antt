-- Laws of texts appended: one after the other, and part by part in a loop.
-- Rests on lists' Sets.
use mathlib.Core.Path.{◌≡◌, refl, sym, ap, subst, ◌∙◌}
use mathlib.Core.List.{List, [], ◌++◌, append_assoc, append-nil}
use Prim.Native.Nat.{ℕ, ◌+◌, ◌-◌, ◌≤◌}
use native.Mathlib.Nat.{add-zero}
use native.Mathlib.Omega.{arith}
use lib.ListN.{length, length-append}
use lib.Seq.{sets, sets-eq, length-sets}
use Rattle.lists.proofs.Sets.{sets_append}
use borrow.Rule.Slice.PartMut.{put_mid, Post-is}
use Rattle.text.specs.Text.{Put}
use Rattle.text.specs.Appended.{Appended}
use Rattle.text.specs.declared.Text.{Text}

-- Nothing.
pub nothing : (a : Text) → Appended 0 [] a a
nothing a = record { put = record { written = refl; ends = sym (add-zero a.length); short = omega arith; long = refl }; same_buffer = refl }

module _ {m : ℕ} {t : List ℕ} {a b : Text} (p : Appended m t a b) where
  -- One text, then another.
  pub then : {n : ℕ} {u : List ℕ} {c : Text} → Appended n u b c → Appended (m + n) (t ++ u) a c
  then {n} {u} {c} q =
      record {
        put =
            record {
              written =
                  q.put.written ∙ ap (λ (s : List ℕ). sets s b.length u) p.put.written
                  ∙ ap (λ (i : ℕ). sets (sets a.buffer.now a.length t) i u) p.put.ends
                  ∙ sym (sets_append a.buffer.now a.length t u);
              ends = omega (arith, p.put.ends, q.put.ends, length-append t u);
              short = omega (arith, p.put.short, q.put.short);
              long = q.put.long ∙ p.put.long;
            };
        same_buffer = q.same_buffer ∙ p.same_buffer;
      }

  -- With a larger bound.
  pub wider : (n : ℕ) → m ≤ n → Appended n t a b
  wider n h =
      record {
        put = record { written = p.put.written; ends = p.put.ends; short = omega (arith, p.put.short); long = p.put.long };
        same_buffer = p.same_buffer;
      }

-- In a loop: of a whole text, all but the rest is appended.
pub record Writing (most : ℕ) (rest whole : List ℕ) (before now : Text) : Type 0 where
  pub done : List ℕ
  pub puts : Appended most done before now
  pub is : done ++ rest ≡ whole

module _ {most : ℕ} {rest whole : List ℕ} {a b : Text} (w : Writing most rest whole a b) where
  pub again : {m : ℕ} {t rest' : List ℕ} {c : Text} (most' : ℕ) → most + m ≤ most' → rest ≡ t ++ rest' → Appended m t b c
      → Writing most' rest' whole a c
  again {m} {t} {rest'} most' h e p =
      record {
        done = w.done ++ t;
        puts = wider (then w.puts p) most' h;
        is = append_assoc w.done t rest' ∙ ap (λ (u : List ℕ). w.done ++ u) (sym e) ∙ w.is;
      }

  pub finish : (most' : ℕ) → most ≤ most' → rest ≡ [] → Appended most' whole a b
  finish most' h e =
      subst (λ (t : List ℕ). Appended most' t a b)
      (sym (append-nil w.done) ∙ ap (λ (u : List ℕ). w.done ++ u) (sym e) ∙ w.is) (wider w.puts most' h)

-- ---- bytes copied to a part of the buffer

pub copied : (bytes b : List ℕ) (at : ℕ) → at + length bytes ≤ length b
    → Put (length bytes) bytes b (put_mid at (at + length bytes - at) b bytes) at (at + length bytes)
copied bytes b at h =
    let e : put_mid at (at + length bytes - at) b bytes ≡ sets b at bytes =
    rw (Post-is at (at + length bytes) b (omega arith), sets-eq bytes b at h, append_assoc) in
    rw e (record { written = refl; ends = refl; short = omega arith; long = length-sets b at bytes })
