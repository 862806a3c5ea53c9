-- `figures::put_run` meets its contract. Rests on text's Written.
use native.Mathlib.Omega.{arith}
use Rattle.text.proofs.Written.{then, wider}
use Rattle.figures.proofs.put_run.Goals as goal

pub returns-in-Ok : goal.returns-in-Ok
returns-in-Ok c = (_, then c.put_figures.ensures.1 (then c.put_rows.ensures c.put_route.ensures))

pub returns-in-Err-Refused : goal.returns-in-Err-Refused
returns-in-Err-Refused c = (_, wider c.put_bytes.ensures 67416 (omega arith))
