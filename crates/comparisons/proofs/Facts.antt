-- The table of specs/Facts, by computing the definitions. Rests on the definitions, and on the law that there is one least weight.
use mathlib.Core.Path.{◌≡◌, refl, ap}
use mathlib.Core.Logic.{◌↔◌, ◌≢◌}
use mathlib.Core.List.{List, [], ◌∷◌}
use mathlib.Core.Option.{Option, none, some}
use Prim.Native.Nat.{ℕ, zero, suc, ◌+◌, ◌*◌, ◌<◌}
use native.Mathlib.Omega.{arith}
use lib.IntN.{ℤ, pos, nat_abs}
use lib.Signed.{◌≤ℤ◌}
use lib.ListN.{get_or}
use Rattle.fields.specs.Fields.{signed_of}
use Rattle.limits.specs.Word.{weight_of}
use Rattle.limits.specs.WithinLimits.{words_in}
use Rattle.graph.specs.Walk.{Edge, Network}
use Rattle.graph.specs.BellmanFord.{network}
use Rattle.graph.specs.Reweighed.{Weighed, scaled, moved}
use Rattle.graph.specs.LeastBetween.{between, LeastBetween, SameLeast}
use Rattle.graph.proofs.Int.{arithℤ}
use Rattle.graph.proofs.LeastBetween.{same_least}
use Rattle.demands.specs.Network.{edge_of, network_of, network_in}
use Rattle.comparisons.specs.Repriced.{EntryRepriced}
use Rattle.comparisons.specs.Totals.{LeastPrice, SamePrices}
use Rattle.comparisons.specs.Facts.{lanes, lane, routed, table, fee, Facts}
use Rattle.comparisons.proofs.Repriced.{entry_hundredfold}

-- ---- what holds of each number below n

abbrev Each : (P : ℕ → Type 0) → (n : ℕ) → Type 0
Each P zero = Unit {0}
Each P (suc n) = P 0 × Each (λ i. P (suc i)) n

each : (P : ℕ → Type 0) (n : ℕ) → Each P n → (i : ℕ) → i < n → P i
each P zero all i l = let no : ⊥ = omega arith in absurd no
each P (suc n) all zero l = all.0
each P (suc n) all (suc i) l = each (λ i. P (suc i)) n all.1 i (omega arith)

pairs : (P : ℕ → ℕ → Type 0) → P 0 0 → P 0 1 → P 1 0 → P 1 1 → (u v : ℕ) → u < 2 → v < 2 → P u v
pairs P a b c d u v i j = each (λ u. P u v) 2 (each (P 0) 2 (a, (b, tt)) v j, (each (P 1) 2 (c, (d, tt)) v j, tt)) u i

-- ---- requests with other prices

entries : (u v : ℕ) → u < 2 → v < 2
    → EntryRepriced (scaled 100) u v (get_or (0 ∷ 0x00000000FFFFFFFF ∷ 7 ∷ 0x00000000000F4240 ∷ []) (u * 2 + v) 0)
    (get_or (0 ∷ 0x00000000FFFFFFFF ∷ 700 ∷ 0x0000000005F5E100 ∷ []) (u * 2 + v) 0)
unfolding weight_of signed_of
entries =
    pairs
    (λ u v. EntryRepriced (scaled 100) u v (get_or (0 ∷ 0x00000000FFFFFFFF ∷ 7 ∷ 0x00000000000F4240 ∷ []) (u * 2 + v) 0)
    (get_or (0 ∷ 0x00000000FFFFFFFF ∷ 700 ∷ 0x0000000005F5E100 ∷ []) (u * 2 + v) 0))
    (entry_hundredfold 0 0 0 0 (λ e. absurd (omega (arith, ap nat_abs e))) (λ ne. refl))
    (entry_hundredfold 0 1 0x00000000FFFFFFFF 0x00000000FFFFFFFF (λ e. refl) (λ ne. absurd (ne refl)))
    (entry_hundredfold 1 0 7 700 (λ e. absurd (omega (arith, ap nat_abs e))) (λ ne. refl))
    (entry_hundredfold 1 1 0x00000000000F4240 0x0000000005F5E100 (λ e. absurd (omega (arith, ap nat_abs e))) (λ ne. refl))

no_entry : (f : Edge → ℤ) (u v : ℕ) → EntryRepriced f u v 0x00000000FFFFFFFF 0x00000000FFFFFFFF
unfolding weight_of signed_of
no_entry f u v = record { no_edge_is = (λ e. refl, λ e. refl); weight = λ ne. absurd (ne refl) }

moved_entry : EntryRepriced (moved fee) 0 1 7 14
unfolding weight_of signed_of
moved_entry = record { no_edge_is = (λ e. absurd (omega (arith, ap nat_abs e)), λ e. absurd (omega (arith, ap nat_abs e))); weight = λ ne. refl }

-- The first word is the lane, whatever comes after it.
moved_lane : (rest rest' : List ℕ) (i : ℕ) → i < 1
    → Weighed (moved fee) (edge_of (0x0001000000000007 ∷ rest) i) (edge_of (0x000100000000000E ∷ rest') i)
unfolding weight_of signed_of
moved_lane rest rest' =
    each (λ i. Weighed (moved fee) (edge_of (0x0001000000000007 ∷ rest) i) (edge_of (0x000100000000000E ∷ rest') i)) 1
    (record { begins = refl; ends = refl; weighs = refl }, tt)

-- ---- least prices

-- The least price from 0 to 1 is 7, and from 1 to 0 there is none.
abbrev Sevens : Network → Type 0
Sevens net = LeastBetween net 0 1 (some (pos 7)) × LeastBetween net 1 0 none

least : Sevens (network_in lanes)
unfolding network_of weight_of signed_of
least = (
  (
    (1, omega arith, refl),
    λ x real.
        each (λ i. between 0 1 x ≡ edge_of (words_in lanes) i → pos 7 ≤ℤ x) 3 (
          λ q. omega (arithℤ, ap (λ (e : Edge). e.weight) q),
          (λ q. omega (arithℤ, ap (λ (e : Edge). e.weight) q), (λ q. absurd (omega (arith, ap (λ (e : Edge). e.from) q)), tt)),
        )
        real.0 real.1 real.2,
  ),
  λ w real.
      each (λ i. between 1 0 w ≢ edge_of (words_in lanes) i) 3 (
        λ q. omega (arith, ap (λ (e : Edge). e.from) q),
        (λ q. omega (arith, ap (λ (e : Edge). e.from) q), (λ q. omega (arith, ap (λ (e : Edge). e.to) q), tt)),
      )
      real.0 real.1 real.2,
)

entry : Sevens (network_in (table 7))
unfolding network_of weight_of signed_of
entry = (
  (
    record { from_there = omega arith; to_there = omega arith; entered = λ e. omega (arith, ap nat_abs e); weighs = refl },
    λ x real. omega (arithℤ, real.weighs),
  ),
  λ w real. real.entered refl,
)

one_lane : (rest : List ℕ) → Sevens (network (edge_of (0x0001000000000007 ∷ rest)) 1)
unfolding weight_of signed_of
one_lane rest = (
  (
    (0, omega arith, refl),
    λ x real.
        each (λ i. between 0 1 x ≡ edge_of (0x0001000000000007 ∷ rest) i → pos 7 ≤ℤ x) 1 (λ q. omega (arithℤ, ap (λ (e : Edge). e.weight) q), tt)
        real.0 real.1 real.2,
  ),
  λ w real.
      each (λ i. between 1 0 w ≢ edge_of (0x0001000000000007 ∷ rest) i) 1 (λ q. omega (arith, ap (λ (e : Edge). e.from) q), tt)
      real.0 real.1 real.2,
)

agreed : (net net' : Network) → Sevens net → Sevens net' → SameLeast 2 net net'
agreed net net' p q =
    pairs (λ u v. u ≢ v → (w : Option ℤ) → LeastBetween net u v w ↔ LeastBetween net' u v w)
    (λ ne. absurd (ne refl))
    (λ ne. same_least net net' 0 1 (some (pos 7)) p.0 q.0)
    (λ ne. same_least net net' 1 0 none p.1 q.1)
    (λ ne. absurd (ne refl))

-- What the least price of a table would have to be.
would_be : (price : ℕ) → SamePrices lanes (table price) → LeastPrice (table price) 0 1 (some (pos 7))
would_be price p = (p.least 0 1 (omega arith) (omega arith) (λ e. omega arith) (some (pos 7))).0 least.0

pub facts : Facts
unfolding network_of weight_of signed_of
facts =
    record {
      printed = record {
        header = refl;
        words = each (λ i. Weighed (scaled 100) (edge_of (0x00010000FFFFFFFB ∷ []) i) (edge_of (0x00010000FFFFFE0C ∷ []) i)) 1
            (record { begins = refl; ends = refl; weighs = refl }, tt);
      };
      hundredths = record { header = refl; words = entries };
      no_lane = λ p. omega (arith, ap nat_abs ((p.words 0 0 (omega arith) (omega arith)).no_edge_is.0 refl));
      ends = λ p. omega (arith, (p.words 0 (omega arith)).begins);
      least = least;
      entry = entry;
      agree_2 = record { vertices = refl; least = agreed (network_in lanes) (network_in (table 7)) least entry };
      agree_3 = record { vertices = refl; least = agreed (network_in lanes) (network_in (lane 0x3000020000100000 7)) least (one_lane []) };
      agree_4 = record { vertices = refl; least = agreed (network_in (lane 0x1000020000100001 7)) (network_in (lane 0x4000020000100000 7)) (one_lane []) (one_lane []) };
      agree_5 = record { vertices = refl; least = agreed (network_in (lane 0x4000020000100000 7)) (network_in (routed 7 0)) (one_lane []) (one_lane (0 ∷ [])) };
      greater = λ p. omega (arith, ap nat_abs (would_be 9 p).0.weighs);
      missing = λ p. (would_be 0x00000000FFFFFFFF p).0.entered refl;
      fees_1 = record {
        header = refl;
        words =
            each
            (λ i. Weighed (moved fee) (edge_of (0x0001000000000007 ∷ 0x0100000000000005 ∷ []) i)
            (edge_of (0x000100000000000E ∷ 0x01000000FFFFFFFE ∷ []) i))
            2 (record { begins = refl; ends = refl; weighs = refl }, (record { begins = refl; ends = refl; weighs = refl }, tt));
      };
      turned = λ p. omega (arith, ap nat_abs (p.words 0 (omega arith)).weighs);
      fees_2 = record {
        header = refl;
        words =
            pairs
            (λ u v. EntryRepriced (moved fee) u v (get_or (words_in (table 7)) (u * 2 + v) 0) (get_or (words_in (table 14)) (u * 2 + v) 0))
            (no_entry _ 0 0) moved_entry (no_entry _ 1 0) (no_entry _ 1 1);
      };
      fees_3 = record { header = refl; words = moved_lane [] [] };
      fees_4 = record { header = refl; words = moved_lane [] [] };
      fees_5 = record { header = refl; words = moved_lane (1 ∷ []) (0 ∷ []) };
      lost = λ p. omega (arith, ap nat_abs ((p.words 0 1 (omega arith) (omega arith)).no_edge_is.1 refl));
      rises = (
        record { unreached = (λ e. absurd (omega (arith, ap nat_abs e)), λ e. absurd (omega (arith, ap nat_abs e))); rises = λ ne. refl },
        record { unreached = (λ e. e, λ e. e); rises = λ ne. absurd (ne refl) },
      );
      stays = λ p. omega (arith, ap nat_abs (p.rises (λ e. omega (arith, ap nat_abs e))));
      appears = λ p. omega (arith, ap nat_abs (p.unreached.0 refl));
      vanishes = λ p. omega (arith, ap nat_abs (p.unreached.1 refl));
    }
