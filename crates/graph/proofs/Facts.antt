-- The table of specs/Facts, by computing the definitions. Rests on the definitions alone else.
use mathlib.Core.Path.{◌≡◌, refl, ap}
use Prim.Native.Nat.{ℕ, zero, suc, ◌<◌}
use lib.IntN.{pos, negsuc}
use native.Mathlib.Omega.{arith}
use Rattle.graph.specs.Walk.{Edge}
use Rattle.graph.specs.Facts.{three, Facts}

none_from_0 : (i : ℕ) → i < 3 → 0 ≡ (three i).from → ⊥
none_from_0 zero l e = omega (arith, e)
none_from_0 (suc zero) l e = omega (arith, e)
none_from_0 (suc (suc zero)) l e = omega (arith, e)
none_from_0 (suc (suc (suc i))) l e = omega (arith, l)

pub facts : Facts
facts =
    record {
      totals = (refl, refl, refl);
      chains = (
        ((0, omega arith, refl), refl, ((1, omega arith, refl), refl, ((2, omega arith, refl), refl, refl))),
        refl,
        λ c. omega (arith, c.2.2),
        λ c. omega (arith, c.1),
        λ c. omega (arith, c.2.1),
        λ c. none_from_0 c.0.0 c.0.1 (ap (λ (e : Edge). e.from) c.0.2),
      );
      names = (
        (omega arith, refl),
        λ n. omega (arith, ap (λ (e : Edge). e.from) n.1),
        λ n. omega (arith, n.0),
        refl,
        λ n. omega (arith, n),
      );
      followed = (refl, refl, refl);
      last_first_is = refl;
      in_place = (refl, refl);
      by_passes = (refl, refl);
      checked = (refl, refl, refl, refl);
      dijkstra = (refl, refl, refl, refl);
      each_vertex = (refl, refl, refl, refl);
      circles = (refl, refl);
      reweighed = (refl, refl);
      least = (λ h. (h.1 (pos 4) (2, omega arith, refl)).le, λ h. h (negsuc 1) (1, omega arith, refl));
    }
