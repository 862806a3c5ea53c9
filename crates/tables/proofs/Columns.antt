-- A loop's words written row by row, each row's words as far apart as there are rows: what the two loops keep, and that the words then
-- stand in their order. Rests on rows' Blocks and Read.
use mathlib.Core.Path.{◌≡◌, refl, sym, ap, ◌∙◌}
use mathlib.Core.Logic.{◌⊎◌, inl, inr, ⊎_elim}
use mathlib.Core.List.{List, [], ◌∷◌}
use Prim.Native.Nat.{ℕ, zero, suc, ◌+◌, ◌-◌, ◌*◌, ◌/◌, ◌%◌, ◌^◌, ◌<◌, ◌≤◌}
use native.Mathlib.Nat.{add-mul, zero-mul, mul-one, one-mul, mul-le-mul_left, mul-le-mul_right, mod-lt, div-add-mod', eq-or-lt_of_le, eq-zero-or-pos, not-suc-le-zero, le_of_suc-le-suc}
use native.Mathlib.Omega.{arith}
use lib.Arith.{digits_lt, digits_mod}
use lib.ListN.{length, get_or, set, length-set, get_or-append}
use lib.Seq.{sets, length-sets, get_or-set_same, get_or-set_other, get_or-append-add, ext_get_or}
use Rattle.machine.proofs.Every.{all_at}
use Rattle.plans.specs.Blocks.{flat}
use Rattle.rows.specs.declared.Row.{Row}
use Rattle.rows.specs.Table.{moving_of}
use Rattle.rows.proofs.Blocks.{flat_length}
use Rattle.rows.proofs.Read.{sets_before, sets_in, sets_after}
use Rattle.tables.specs.Writing.{moving_at, RoomAt, Wrote, Spaced}

-- ---- places

lt_or_le : (m n : ℕ) → (m < n) ⊎ (n ≤ m)
lt_or_le m n =
    ⊎_elim (λ (e : n - m ≡ 0). inr (omega arith)) (λ (l : 0 < n - m). inl (omega arith)) (eq-zero-or-pos (n - m))

-- Places in different columns differ.
apart : (size c i j l : ℕ) → c < i → i < size → j * size + c ≡ l * size + i → ⊥
apart size c i j l h s e =
    let same : c ≡ i =
    sym (digits_mod j {m = size} {r = c} (omega arith)) ∙ ap (λ (n : ℕ). n % size) e ∙ digits_mod l {m = size} {r = i} s in
    omega arith

-- A later turn's place is no earlier.
no_earlier : (size i j : ℕ) → i ≤ j → i * size ≤ j * size
no_earlier size i j h = mul-le-mul_right size h

further : (size i j : ℕ) → i < j → i * size + size ≤ j * size
further size i j h = omega (arith, no_earlier size (i + 1) j (omega arith), add-mul i 1 size, one-mul size)

-- Where there are words, each row has one.
pub begins : (size count at i : ℕ) → (at + count * size ≡ at → ⊥) → i < size → at + i < at + count * size
begins size count at i some h =
    ⊎_elim (λ (z : count ≡ 0). absurd (some (omega (arith, ap (λ (n : ℕ). n * size) z, zero-mul size))))
    (λ (l : 0 < count). omega (arith, further size 0 count l, zero-mul size)) (eq-zero-or-pos count)

-- A row's word, by its place.
pub moving_at_is : (rows : List Row) (r : ℕ) (d : Row) → r < length rows → moving_of (get_or rows r d) ≡ moving_at rows r
moving_at_is [] r d h = absurd (not-suc-le-zero h)
moving_at_is (x ∷ rows) zero d h = refl
moving_at_is (x ∷ rows) (suc r) d h = moving_at_is rows r d (le_of_suc-le-suc h)

-- ---- one row

-- Before turn j.
pub record Spacing (f : ℕ → ℕ) (size at end : ℕ) (before out : List ℕ) (q j : ℕ) : Type 0 where
  pub here : q ≡ at + j * size
  pub long : length out ≡ length before
  pub within : (i : ℕ) → i < j → at + i * size < end
  pub put : (i : ℕ) → i < j → get_or out (at + i * size) 0 ≡ f i
  pub stays : (p : ℕ) → ((i : ℕ) → i < j → p ≡ at + i * size → ⊥) → get_or out p 0 ≡ get_or before p 0

module _ (f : ℕ → ℕ) (size at end : ℕ) (some : 0 < size) (before : List ℕ) where
  module _ {out : List ℕ} {q j : ℕ} (s : Spacing f size at end before out q j) where
    -- There are no more turns than places.
    pub few : j ≤ q
    few = omega (arith, s.here, mul-le-mul_left {m = 1} {n = size} j some, mul-one j)

    pub turn_at : q < end → at + j * size < end
    turn_at h = omega (arith, s.here)

    pub spaced_on : q < end → end ≤ length before → (v : ℕ) → v ≡ f j → Spacing f size at end before (set out q v) (q + size) (j + 1)
    spaced_on h l v e =
        record {
          here = omega (arith, s.here, add-mul j 1 size, one-mul size);
          long = length-set out q v ∙ s.long;
          within = λ i m.
              ⊎_elim (λ (i≡j : i ≡ j). rw i≡j (turn_at h)) (λ (i<j : i < j). s.within i i<j)
              (eq-or-lt_of_le {n = i} {m = j} (omega arith));
          put = λ i m.
              ⊎_elim
              (λ (i≡j : i ≡ j).
              rw (i≡j, ← s.here) (get_or-set_same out q v 0 (omega (arith, s.long)) ∙ e))
              (λ (i<j : i < j).
              get_or-set_other out q (at + i * size) v 0 (λ x. omega (arith, s.here, further size i j i<j)) ∙ s.put i i<j)
              (eq-or-lt_of_le {n = i} {m = j} (omega arith));
          stays = λ p m.
              get_or-set_other out q p v 0 (λ x. m j (omega arith) (x ∙ s.here))
              ∙ s.stays p (λ i i<j x. m i (omega arith) x);
        }

    pub spaced : end ≤ q → Spaced f size at end before out
    spaced h =
        record {
          long = s.long;
          put = λ i m.
              s.put i
              (⊎_elim (λ (i<j : i < j). i<j)
              (λ (j≤i : j ≤ i). let no : ⊥ = omega (arith, s.here, no_earlier size j i j≤i) in absurd no) (lt_or_le i j));
          stays = λ p m. s.stays p (λ i i<j x. m i (s.within i i<j) x);
        }

-- ---- all rows

-- Before row i; w c j is the word of row c in turn j.
pub record Striped (w : (c j : ℕ) → ℕ) (size count at : ℕ) (before out : List ℕ) (i : ℕ) : Type 0 where
  pub within : i ≤ size
  pub long : length out ≡ length before
  pub put : (c j : ℕ) → c < i → j < count → get_or out (at + (j * size + c)) 0 ≡ w c j
  pub stays : (p : ℕ) → (p < at) ⊎ (at + count * size ≤ p) → get_or out p 0 ≡ get_or before p 0

-- The word of row c in turn j, by its place.
flat_at : (size : ℕ) (f : ℕ → List ℕ) → ((j : ℕ) → length (f j) ≡ size) → (count j c : ℕ) → j < count → c < size
    → get_or (flat count f) (j * size + c) 0 ≡ get_or (f j) c 0
unfolding flat
flat_at size f same zero j c h l = absurd (not-suc-le-zero h)
flat_at size f same (suc count) j c h l =
    let n = flat_length size f same count in
    ⊎_elim
    (λ (e : j ≡ count).
    let m : j * size + c ≡ length (flat count f) + c = omega (arith, ap (λ (i : ℕ). i * size) e) in
    rw (m, e) (get_or-append-add (flat count f) (f count) c 0))
    (λ (e : j < count).
    get_or-append (flat count f) (f count) 0 (j * size + c) (omega (arith, digits_lt {q = j} {m = count} {r = c} {c = size} e l))
    ∙ flat_at size f same count j c e l)
    (eq-or-lt_of_le (le_of_suc-le-suc h))

module _ (w : (c j : ℕ) → ℕ) (size count at : ℕ) (before : List ℕ) where
  abbrev words : List ℕ
  words = flat count (λ j. flat size (λ c. w c j ∷ []))

  row_length : (j : ℕ) → length (flat size (λ c. w c j ∷ [])) ≡ size
  row_length j = flat_length 1 (λ c. w c j ∷ []) (λ c. refl) size ∙ mul-one size

  words_length : length words ≡ count * size
  words_length = flat_length size (λ j. flat size (λ c. w c j ∷ [])) row_length count

  word_at_is : (c j : ℕ) → c < size → j < count → get_or words (j * size + c) 0 ≡ w c j
  word_at_is c j h l =
      let e : c ≡ c * 1 + 0 = omega (arith, mul-one c) in
      flat_at size (λ j. flat size (λ c. w c j ∷ [])) row_length count j c l h
      ∙ ap (λ (i : ℕ). get_or (flat size (λ c. w c j ∷ [])) i 0) e
      ∙ flat_at 1 (λ c. w c j ∷ []) (λ c. refl) size c 0 h (omega arith)

  module _ (room : RoomAt words before at) where
    pub ends_in : at + count * size ≤ length before
    ends_in = omega (arith, room.fits, words_length)

    pub row_small : (i : ℕ) → i < size → (j : ℕ) → at + i + j * size < at + count * size → w i j < 2 ^ 64
    row_small i h j l =
        let j<count : j < count =
        ⊎_elim (λ (e : j < count). e)
        (λ (e : count ≤ j). let no : ⊥ = omega (arith, no_earlier size count j e) in absurd no) (lt_or_le j count) in
        rw (word_at_is i j h j<count) at
        (all_at (λ x. x < 2 ^ 64) words (j * size + i) 0 room.small
        (omega (arith, words_length, digits_lt {q = j} {m = count} {r = i} {c = size} j<count h)))

  pub striped : Striped w size count at before before 0
  striped = record { within = omega arith; long = refl; put = λ c j h. absurd (not-suc-le-zero h); stays = λ p h. refl }

  module _ {out : List ℕ} {i : ℕ} (s : Striped w size count at before out i) where
    pub row_more : {after : List ℕ} → i < size → Spaced (w i) size (at + i) (at + count * size) out after
        → Striped w size count at before after (i + 1)
    row_more {after} h d =
        record {
          within = omega arith;
          long = d.long ∙ s.long;
          put = λ c j m l.
              ⊎_elim
              (λ (e : c ≡ i).
              let n : at + (j * size + c) ≡ at + i + j * size = omega (arith, e) in
              rw (n, e) (d.put j (omega (arith, digits_lt {q = j} {m = count} {r = i} {c = size} l h))))
              (λ (e : c < i).
              d.stays (at + (j * size + c)) (λ k o x. apart size c i j k e h (omega (arith, x))) ∙ s.put c j e l)
              (eq-or-lt_of_le {n = c} {m = i} (omega arith));
          stays = λ p o.
              d.stays p (λ k l x. ⊎_elim (λ (e : p < at). omega arith) (λ (e : at + count * size ≤ p). omega arith) o) ∙ s.stays p o;
        }

    -- After the last row, or where there are no words.
    pub stripes : (0 < count * size → size ≤ i) → RoomAt words before at → Wrote words before out at (at + count * size)
    stripes h room =
        record {
          written = ext_get_or 0 out (sets before at words) (s.long ∙ sym (length-sets before at words)) (λ p l.
              ⊎_elim (λ (e : p < at). s.stays p (inl e) ∙ sym (sets_before words before at p e))
              (λ (e : at ≤ p).
              ⊎_elim (λ (o : p < at + count * size). inner p e o)
              (λ (o : at + count * size ≤ p). s.stays p (inr o) ∙ sym (sets_after words before at p (omega (arith, words_length))))
              (lt_or_le p (at + count * size)))
              (lt_or_le p at));
          ends = omega (arith, words_length);
        }
      where
        inner : (p : ℕ) → at ≤ p → p < at + count * size → get_or out p 0 ≡ get_or (sets before at words) p 0
        inner p e o =
            let m : ℕ = p - at in
            let some : 0 < size =
            ⊎_elim (λ (z : size ≡ 0). let no : ⊥ = omega (arith, ap (λ (n : ℕ). count * n) z) in absurd no) (λ (z : 0 < size). z)
            (eq-zero-or-pos size) in
            let j : ℕ = m / size in
            let c : ℕ = m % size in
            let c<size : c < size = mod-lt m some in
            let is : j * size + c ≡ m = div-add-mod' m size in
            let j<count : j < count =
            ⊎_elim (λ (z : j < count). z)
            (λ (z : count ≤ j). let no : ⊥ = omega (arith, no_earlier size count j z) in absurd no) (lt_or_le j count) in
            let n : p ≡ at + (j * size + c) = omega arith in
            rw n
            (s.put c j (omega (arith, h (omega arith))) j<count
            ∙ sym (word_at_is c j c<size j<count)
            ∙ sym (sets_in words before at (j * size + c) (omega (arith, words_length)) room.fits))
