-- Each method's lines have the rows of its outline, whatever the counts: by computing both. Rests on the definitions alone.
use mathlib.Core.Path.{refl}
use Prim.Native.Nat.{ℕ}
use Rattle.plans.specs.Method1 as Method1
use Rattle.plans.specs.Method2 as Method2
use Rattle.plans.specs.Method3 as Method3
use Rattle.plans.specs.Method4 as Method4
use Rattle.plans.specs.Method5 as Method5
use Rattle.rows.specs.Rows.{env_of, rows_of}
use Rattle.rows.specs.Code.{place_of, step_of, set_number, set_other, set_step, word_step, row_of_code}
use Rattle.tables.proofs.Tabled.{SameRows}
use Rattle.planner.specs.declared.method1.TheConstants as Lines1
use Rattle.planner.specs.declared.method2.TheConstants as Lines2
use Rattle.planner.specs.declared.method3.TheConstants as Lines3
use Rattle.planner.specs.declared.method4.TheConstants as Lines4
use Rattle.planner.specs.declared.method5.TheConstants as Lines5

module _ (n m : ℕ) where
  pub solve_lines : SameRows n (env_of n m (Method1.starts n m)) Lines1.SOLVE Method1.solve
  unfolding rows_of row_of_code place_of step_of set_number set_other set_step word_step
  solve_lines = refl

  pub lines3 : SameRows n (env_of n m (Method3.starts n m)) Lines3.LINES Method3.outline
  unfolding rows_of row_of_code place_of step_of set_number set_other set_step word_step
  lines3 = refl

  pub lines4 : SameRows n (env_of n m (Method4.starts n m)) Lines4.LINES Method4.outline
  unfolding rows_of row_of_code place_of step_of set_number set_other set_step word_step
  lines4 = refl

  pub lines5 : SameRows n (env_of n m (Method5.starts n m)) Lines5.LINES Method5.show
  unfolding rows_of row_of_code place_of step_of set_number set_other set_step word_step
  lines5 = refl

pub lines2 : (n : ℕ) → SameRows n (env_of n 0 (Method2.starts n)) Lines2.LINES Method2.outline
unfolding rows_of row_of_code place_of step_of set_number set_other set_step word_step
lines2 n = refl
