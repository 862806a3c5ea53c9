-- Laws of a loop by what it counts: a run, a loop of a counter, and a loop of none, whose turns are copies. Rests on Written and Copied.
use mathlib.Core.Path.{◌≡◌, refl, subst}
use mathlib.Core.List.{List}
use Prim.Native.Nat.{ℕ, ◌+◌, ◌-◌, ◌*◌, ◌<◌, ◌≤◌}
use native.Mathlib.Omega.{arith}
use lib.ListN.{length}
use Rattle.plans.specs.declared.Counters.{Counters}
use Rattle.plans.specs.Blocks.{flat}
use Rattle.rows.specs.declared.Over.{Over}
use Rattle.rows.specs.declared.Level.{Level}
use Rattle.rows.specs.declared.Over.TheVariants.{Counter, Nothing, Run}
use Rattle.rows.specs.declared.Row.{Row}
use Rattle.rows.specs.declared.Row.TheVariants.{Loop}
use Rattle.rows.specs.Table.{turned}
use Rattle.tables.specs.Writing.{block, running, looping, unrolled, RoomAt, Wrote, Repeated}
use Rattle.tables.proofs.Written.{begin, kept, turn, again, finish}
use Rattle.tables.proofs.Copied.{copies, copies_length}

-- ---- a loop, by what it counts

module _ (source : ℕ) (rows : List Row) (k : Counters) (over : Over) (turns : ℕ) where
  pub as_run_is : over ≡ Run → unrolled source (Loop over turns (length rows)) rows k ≡ running source turns rows k
  unfolding unrolled
  as_run_is e = rw e

  pub as_nothing : over ≡ Nothing → unrolled source (Loop over turns (length rows)) rows k ≡ looping source Nothing turns rows k
  unfolding unrolled
  as_nothing e = rw e

  pub as_counter : {level : Level} → over ≡ Counter level
      → unrolled source (Loop over turns (length rows)) rows k ≡ looping source (Counter level) turns rows k
  unfolding unrolled
  as_counter e = rw e

-- ---- turn by turn

module _ (source : ℕ) (rows : List Row) (k : Counters) where
  module _ (over : Over) (count : ℕ) where
    abbrev pub turns : ℕ → List ℕ
    turns j = block source rows (turned over j k)

    module _ {out₀ out : List ℕ} {at next : ℕ} (j : ℕ) (p : Wrote (flat j turns) out₀ out at next) where
      module _ (now : Counters) (e : now ≡ turned over j k) where
        pub turn_room : j < count → RoomAt (looping source over count rows k) out₀ at → RoomAt (block source rows now) out next
        unfolding looping
        turn_room h room = rw e (turn turns j p count h room)

        pub turn_put : {out' : List ℕ} {next' : ℕ} → Wrote (block source rows now) out out' next next'
            → Wrote (flat (j + 1) turns) out₀ out' at next'
        turn_put q = again turns j p (rw e at q)

      pub turns_put : j ≤ count → count ≤ j → Wrote (looping source over count rows k) out₀ out at next
      unfolding looping
      turns_put h l = finish turns j p count h l

  abbrev body : List ℕ
  body = block source rows k

  module _ (count : ℕ) where
    by_copies : looping source Nothing count rows k ≡ copies body count
    unfolding looping
    by_copies = refl

    module _ {out : List ℕ} {at : ℕ} (room : RoomAt (looping source Nothing count rows k) out at) where
      all : RoomAt (copies body count) out at
      all = subst (λ (ws : List ℕ). RoomAt ws out at) by_copies room

      pub once_room : 0 < count → RoomAt body out at
      once_room l = turn (λ j. body) 0 (begin (λ j. body) out at) count l all

      pub copies_room : {out' : List ℕ} {mid : ℕ} → Wrote body out out' at mid → (at ≤ mid) × (at + count * (mid - at) ≤ length out')
      copies_room {out'} {mid} p =
          let e : mid - at ≡ length body = omega (arith, p.ends) in
          let n = copies_length body count in
          (omega (arith, p.ends), rw e (omega (arith, all.fits, kept p)))

    pub copies_put : {out out' out'' : List ℕ} {at mid next : ℕ} → Wrote body out out' at mid → Repeated count out' out'' at mid next
        → Wrote (looping source Nothing count rows k) out out'' at next
    copies_put {out} p q = rw by_copies (q body out p)
