-- What working out the rounds of operation words answers and leaves: nothing of the cells changes, and of the log only as many places as there are
-- words. Rests on the machine's depths.
use Rattle.std.specs.Prelude.{◌≡◌, List, ℕ, ℤ, length, drop}
use Rattle.machine.specs.Depth.{depth_of}

pub record WorkedOut (words : List ℕ) (cells₀ : List ℤ) (log₀ : List ℕ) (rounds : ℕ) (cells : List ℤ) (log : List ℕ) : Type 0 where
  pub charged : rounds ≡ depth_of words
  pub cells_stay : cells ≡ cells₀
  pub log_beyond : drop (length words) log ≡ drop (length words) log₀
