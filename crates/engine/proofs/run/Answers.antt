-- `engine::run` meets its contract: a law for each way out. Rests on Answered.
use mathlib.Core.Path.{◌≡◌}
use mathlib.Core.Option.{none}
use Prim.Native.Nat.{ℕ}
use mathlib.Core.List.{List}
use lib.IntN.{ℤ}
use Rattle.plans.specs.declared.Header.{Header}
use Rattle.plans.specs.Plan.{distances, parents, route, by_kind}
use Rattle.plans.proofs.EachKind.{each_kind}
use Rattle.demands.specs.Run.{Lent, refusal_of}
use Rattle.limits.specs.WithinLimits.{header_in}
use Rattle.engine.proofs.Answered.{refusal_kept, refused, Passed, counted, cells_enough, ready, verdict_there, can_copy, cycled, ran}
use Rattle.engine.proofs.run.Goals as goal

-- What is lent.
abbrev lent : (cells : List ℤ) (log : List ℕ) (total parent last : List ℤ) → Lent
lent cells log total parent last = record { cells = cells; log = log; results = by_kind total parent last }

-- Nothing was refused, and the header is the first word's.
passed : (request : List ℕ) (l : Lent) (h : Header) → (none ≡ refusal_of request l) × (h ≡ header_in request) → Passed request l h
passed request l h p = record { fine = p.0; is = p.1 }

pub returns-in_err-h : goal.returns-in_err-h
returns-in_err-h c =
    let s = c.args in
    refused s.request.now (lent s.cells.now s.log.now s.distances.now s.parents.now s.route.now) _ c.in_err-h.ensures.0 _ (refusal_kept _ _ c.from_residual.ensures.1)

pub lay-requires : goal.lay-requires
lay-requires c =
    let s = c.args in
    let p = passed s.request.now (lent s.cells.now s.log.now s.distances.now s.parents.now s.route.now) _ c.in_ok-h.ensures in
    (counted p, cells_enough p)

pub carry-carried-requires : goal.carry-carried-requires
carry-carried-requires c =
    let s = c.args in
    let p = passed s.request.now (lent s.cells.now s.log.now s.distances.now s.parents.now s.route.now) _ c.in_ok-h.ensures in
    (c.figures_of-f.ensures.verdict_is, ready p c.lay.ensures)

pub verdict_left-requires : goal.verdict_left-requires
verdict_left-requires c =
    let s = c.args in
    let p = passed s.request.now (lent s.cells.now s.log.now s.distances.now s.parents.now s.route.now) _ c.in_ok-h.ensures in
    verdict_there p c.lay.ensures c.carry-carried.ensures c.figures_of-f.ensures

pub returns-then-circle : goal.returns-then-circle
returns-then-circle c =
    let s = c.args in
    let p = passed s.request.now (lent s.cells.now s.log.now s.distances.now s.parents.now s.route.now) _ c.in_ok-h.ensures in
    cycled p c.lay.ensures c.carry-carried.ensures c.figures_of-f.ensures c.verdict_left.ensures c.if-circle.true

pub copy_out-requires : goal.copy_out-requires
copy_out-requires c =
    let s = c.args in
    let p = passed s.request.now (lent s.cells.now s.log.now s.distances.now s.parents.now s.route.now) _ c.in_ok-h.ensures in
    can_copy p c.lay.ensures c.carry-carried.ensures c.figures_of-f.ensures distances

pub copy_out-requires-2 : goal.copy_out-requires-2
copy_out-requires-2 c =
    let s = c.args in
    let p = passed s.request.now (lent s.cells.now s.log.now s.distances.now s.parents.now s.route.now) _ c.in_ok-h.ensures in
    can_copy p c.lay.ensures c.carry-carried.ensures c.figures_of-f.ensures parents

pub copy_out-requires-3 : goal.copy_out-requires-3
copy_out-requires-3 c =
    let s = c.args in
    let p = passed s.request.now (lent s.cells.now s.log.now s.distances.now s.parents.now s.route.now) _ c.in_ok-h.ensures in
    can_copy p c.lay.ensures c.carry-carried.ensures c.figures_of-f.ensures route

pub returns : goal.returns
returns c =
    let s = c.args in
    let p = passed s.request.now (lent s.cells.now s.log.now s.distances.now s.parents.now s.route.now) _ c.in_ok-h.ensures in
    ran p c.lay.ensures c.carry-carried.ensures c.figures_of-f.ensures c.verdict_left.ensures c.if-circle.false
    (each_kind _ c.copy_out.ensures c.copy_out-2.ensures c.copy_out-3.ensures)
