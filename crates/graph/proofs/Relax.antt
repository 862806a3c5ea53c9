-- A step in which each vertex keeps its distance or takes a lesser offer, whatever edges are looked at: what it keeps of distances, walks and
-- parents. Rests on the certificate and on parents.
use mathlib.Core.Path.{◌≡◌, refl, sym, ap, ◌∙◌}
use mathlib.Core.Logic.{inl, inr, ◌≢◌}
use mathlib.Core.Bool.{true, false, ◌&&◌, and-eq-true_iff}
use mathlib.Core.List.{[]}
use Prim.Native.Nat.{ℕ, suc, ◌*◌, ◌<◌, ◌≤◌}
use native.Mathlib.Omega.{arith}
use borrow.Author.Tests.{eqb-true, eq-eqb}
use lib.Dec.{eqb}
use lib.IntN.{ℤ, pos, negsuc, nat_abs, ◌+ℤ◌}
use lib.Signed.{lt_z, ◌≤ℤ◌, ◌<ℤ◌}
use Rattle.lists.proofs.Test.{by_test, and_not}
use Rattle.graph.specs.Walk.{Edge, Below}
use Rattle.graph.specs.BellmanFord.{network, numbered, State, start, offer, Within}
use Rattle.graph.proofs.Int.{arithℤ, sum, abs_add, lt_z_true, lt_z_false, lt_lt_z}
use Rattle.graph.proofs.Walk.{one_more}
use Rattle.graph.proofs.Certificate.{Sound}
use Rattle.graph.proofs.Parents.{Parent, Ranked}

pub start_within : (far : ℤ) (s W : ℕ) → Within far (0 * W) (start far s)
start_within far s W v = by_test (eqb v s) (λ e. inr (rw e (omega arith))) (λ e. inl (rw e))

-- The test that an edge's from-vertex is reached and its offer less than x.
module _ (edge : ℕ → Edge) (far : ℤ) (i : ℕ) (a : State) (x : ℤ) where
  pub less_yes : (lt_z (a.dist (edge i).from) far && lt_z (offer edge i a) x) ≡ true → (a.dist (edge i).from <ℤ far) × (offer edge i a <ℤ x)
  less_yes e = let r = (and-eq-true_iff (lt_z (a.dist (edge i).from) far) (lt_z (offer edge i a) x)).0 e in (lt_z_true r.0, lt_z_true r.1)

  pub less_no : (lt_z (a.dist (edge i).from) far && lt_z (offer edge i a) x) ≡ false → a.dist (edge i).from <ℤ far → x ≤ℤ offer edge i a
  less_no e h = lt_z_false (and_not (lt_z (a.dist (edge i).from) far) (lt_z (offer edge i a) x) e (lt_lt_z h))

-- What becomes of v in the step from a to b.
pub data Change (edge : ℕ → Edge) (m : ℕ) (far : ℤ) (a b : State) (v : ℕ) : Type 0 where
  lowered : (i : ℕ) → i < m → (edge i).to ≡ v → a.dist (edge i).from <ℤ far → offer edge i a <ℤ a.dist v →
      b.dist v ≡ offer edge i a → b.parent v ≡ pos i → Change edge m far a b v
  kept : b.dist v ≡ a.dist v → b.parent v ≡ a.parent v → Change edge m far a b v

-- What holds of distances and parents throughout.
pub record Inv (edge : ℕ → Edge) (m n s : ℕ) (far : ℤ) (st : State) : Type 0 where
  pub low : (v : ℕ) → st.dist v ≤ℤ far
  pub sound : Sound (network edge m) far n s st.dist
  pub parents : Ranked (network edge m) (numbered edge m) far n s st.dist st.parent
  -- An unreached vertex has no parent, and neither has the source while its distance is 0.
  pub blank : (v : ℕ) → st.dist v ≡ far → st.parent v ≡ negsuc 0
  pub root : st.dist s ≡ pos 0 → st.parent s ≡ negsuc 0

module _ (edge : ℕ → Edge) (m n s : ℕ) (far : ℤ) where
  pub begins : pos 0 <ℤ far → Inv edge m n s far (start far s)
  begins h =
      record {
        low = λ v. by_test (eqb v s) (λ e. rw e (omega arithℤ)) (λ e. rw e (omega arithℤ));
        sound =
            record {
              start = rw (eq-eqb s s refl) (omega arithℤ);
              begun = rw (eq-eqb s s refl) h;
              walks = λ v l k. by_test (eqb v s) (λ e. ([], sym (eqb-true v s e), rw e)) (λ e. absurd (unreached v e k));
            };
        parents = record { rank = λ v. 0; each = λ v l k ne. by_test (eqb v s) (λ e. absurd (ne (eqb-true v s e))) (λ e. absurd (unreached v e k)) };
        blank = λ v e. refl;
        root = λ e. refl;
      }
    where
      unreached : (v : ℕ) → eqb v s ≡ false → ¬ ((start far s).dist v <ℤ far)
      unreached v e k = let k : far <ℤ far = rw e at k in omega arithℤ

module _ (edge : ℕ → Edge) (m : ℕ) (far : ℤ) (a b : State) (change : (v : ℕ) → Change edge m far a b v) where
  pub lower : (v : ℕ) → b.dist v ≤ℤ a.dist v
  lower v = elim (change v) [ lowered i l t h k d p ↦ omega arithℤ | kept d p ↦ omega arithℤ ]

  pub still_within : (c W : ℕ) → ((i : ℕ) → i < m → nat_abs (edge i).weight ≤ W) → Within far (c * W) a → Within far (suc c * W) b
  still_within c W weights p v =
      elim (change v) [
        | lowered i l t h k d _ ↦
            let u = (edge i).from in
            elim (p u) [ inl e ↦ absurd (omega arithℤ) | inr e ↦ inr (omega (arith, ap nat_abs d, weights i l, abs_add (a.dist u) (edge i).weight)) ]
        | kept d _ ↦ elim (p v) [ inl e ↦ inl (d ∙ e) | inr e ↦ inr (omega (arith, ap nat_abs d)) ]
      ]

  module _ (n s : ℕ) (below : Below (network edge m) n) where
    still_sound : Sound (network edge m) far n s a.dist → Sound (network edge m) far n s b.dist
    still_sound p =
        record {
          start = omega (arithℤ, lower s, p.start);
          begun = omega (arithℤ, lower s, p.begun);
          walks = λ v l h. elim (change v) [
            | lowered i im t r k d _ ↦
                let from = (edge i).from in
                one_more (network edge m) s v (edge i) (a.dist from) (b.dist v) (i, im, refl) t (sym d) (p.walks from (below (edge i) (i, im, refl)).0 r)
            | kept d _ ↦ rw d (p.walks v l (omega arithℤ))
          ];
        }

    -- A ghost rank goes along: a lowered vertex gets one above its new parent's.
    abbrev rise : (rank : ℕ → ℕ) (v : ℕ) → Change edge m far a b v → ℕ
    rise rank v (lowered i l t h k d p) = suc (rank (edge i).from)
    rise rank v (kept d p) = rank v

    still_parents : Ranked (network edge m) (numbered edge m) far n s a.dist a.parent → Ranked (network edge m) (numbered edge m) far n s b.dist b.parent
    still_parents p = record { rank = ranked; each = λ v l h ne. each v l h ne (change v) refl }
      where
        ranked : ℕ → ℕ
        ranked v = rise p.rank v (change v)

        same_rank : (v : ℕ) → a.dist v ≤ℤ b.dist v → ranked v ≡ p.rank v
        same_rank v l = go (change v)
          where
            go : (c : Change edge m far a b v) → rise p.rank v c ≡ p.rank v
            go (lowered i im t h k d q) = absurd (omega arithℤ)
            go (kept d q) = refl

        each : (v : ℕ) → v < n → b.dist v <ℤ far → v ≢ s → (c : Change edge m far a b v) → rise p.rank v c ≡ ranked v →
            Parent (network edge m) (numbered edge m) far b.dist b.parent ranked v
        each v l h ne (lowered i im t f k d q) r =
            let u = (edge i).from in
            record {
              mark = i;
              marked = q;
              edge = edge i;
              real = (i, im, refl);
              named = (im, refl);
              ends = t;
              reached = omega (arithℤ, lower u);
              covers = omega (arithℤ, lower u, sum (b.dist u) (edge i).weight, sum (a.dist u) (edge i).weight);
              falls = λ (x : b.dist u +ℤ (edge i).weight ≡ b.dist v).
                  omega (arith, r, same_rank u (omega (arithℤ, sum (b.dist u) (edge i).weight, sum (a.dist u) (edge i).weight)));
            }
        each v l h ne (kept d q) r =
            let o = p.each v l (omega arithℤ) ne in
            let f = o.edge.from in
            let g = o.edge.weight in
            record {
              mark = o.mark;
              marked = q ∙ o.marked;
              edge = o.edge;
              real = o.real;
              named = o.named;
              ends = o.ends;
              reached = omega (arithℤ, lower f, o.reached);
              covers = omega (arithℤ, lower f, o.covers, sum (b.dist f) g, sum (a.dist f) g);
              falls = λ (x : b.dist f +ℤ g ≡ b.dist v).
                  omega (
                    arith,
                    r,
                    same_rank f (omega (arithℤ, o.covers, sum (b.dist f) g, sum (a.dist f) g)),
                    o.falls (omega (arithℤ, lower f, o.covers, sum (b.dist f) g, sum (a.dist f) g)),
                  );
            }

    pub still : Inv edge m n s far a → Inv edge m n s far b
    still p =
        record {
          low = λ v. omega (arithℤ, lower v, p.low v);
          sound = still_sound p.sound;
          parents = still_parents p.parents;
          blank = λ v e. elim (change v) [ lowered i l t h k d q ↦ absurd (omega (arithℤ, p.low v)) | kept d q ↦ q ∙ p.blank v (sym d ∙ e) ];
          root = λ e. elim (change s) [ lowered i l t h k d q ↦ absurd (omega (arithℤ, p.sound.start)) | kept d q ↦ q ∙ p.root (sym d ∙ e) ];
        }
