-- `headers::method5::figures` meets its contract. Rests on Figured.
use native.Mathlib.Nat.{add-zero}
use native.Mathlib.Omega.{arith}
use Rattle.plans.specs.Plan.{word_count_of, cells_of, length_of, verdict_cell, results_of}
use Rattle.headers.specs.Figures.{figures_of}
use Rattle.headers.proofs.Figured.{sizes}
use Rattle.headers.proofs.method5.figures.Goals as goal

pub overflow_mul-d : goal.overflow_mul-d
overflow_mul-d c = let s = sizes _ c.args.h.within_limits in omega arith

pub overflow_add-result : goal.overflow_add-result
overflow_add-result c = let s = sizes _ c.args.h.within_limits in omega arith

pub overflow_add-result-2 : goal.overflow_add-result-2
overflow_add-result-2 c = let s = sizes _ c.args.h.within_limits in omega arith

pub overflow_add-result-3 : goal.overflow_add-result-3
overflow_add-result-3 c = let s = sizes _ c.args.h.within_limits in omega arith

pub overflow_mul-result-2 : goal.overflow_mul-result-2
overflow_mul-result-2 c = let s = sizes _ c.args.h.within_limits in omega arith

pub overflow_mul-result-3 : goal.overflow_mul-result-3
overflow_mul-result-3 c = let s = sizes _ c.args.h.within_limits in omega arith

pub overflow_add-result-4 : goal.overflow_add-result-4
overflow_add-result-4 c = let s = sizes _ c.args.h.within_limits in omega arith

pub overflow_add-result-5 : goal.overflow_add-result-5
overflow_add-result-5 c = let s = sizes _ c.args.h.within_limits in omega arith

pub overflow_mul-result-5 : goal.overflow_mul-result-5
overflow_mul-result-5 c = let s = sizes _ c.args.h.within_limits in omega arith

pub overflow_mul-result-6 : goal.overflow_mul-result-6
overflow_mul-result-6 c = let s = sizes _ c.args.h.within_limits in omega arith

pub overflow_add-result-6 : goal.overflow_add-result-6
overflow_add-result-6 c = let s = sizes _ c.args.h.within_limits in omega arith

pub overflow_mul-result-8 : goal.overflow_mul-result-8
overflow_mul-result-8 c = let s = sizes _ c.args.h.within_limits in omega arith

pub overflow_add-result-7 : goal.overflow_add-result-7
overflow_add-result-7 c = let s = sizes _ c.args.h.within_limits in omega arith

pub overflow_add-result-8 : goal.overflow_add-result-8
overflow_add-result-8 c = let s = sizes _ c.args.h.within_limits in omega arith

pub overflow_add-result-9 : goal.overflow_add-result-9
overflow_add-result-9 c = let s = sizes _ c.args.h.within_limits in omega arith

pub overflow_add-result-10 : goal.overflow_add-result-10
overflow_add-result-10 c = let s = sizes _ c.args.h.within_limits in omega arith

pub overflow_add-result-11 : goal.overflow_add-result-11
overflow_add-result-11 c = let s = sizes _ c.args.h.within_limits in omega arith

pub overflow_add-result-12 : goal.overflow_add-result-12
overflow_add-result-12 c = let s = sizes _ c.args.h.within_limits in omega arith

pub returns : goal.returns
unfolding word_count_of cells_of length_of verdict_cell results_of figures_of
returns c = rw c.requires (simp add-zero)
