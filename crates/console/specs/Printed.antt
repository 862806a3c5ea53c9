-- What it means that a text is printed to a buffer. Rests on lists' Buffers.
use Rattle.std.specs.Prelude.{◌≡◌, List, ℕ, length}
use Rattle.lists.specs.Buffers.{overwritten}
use Rattle.io.specs.Counts.{IsPrefixLen}

-- A text stands from the start of the buffer, which stays as it was beyond it, and `size` is its length.
pub record Printed (text before after : List ℕ) (size : ℕ) : Type 0 where
  pub is : after ≡ overwritten text before
  pub size_is : size ≡ length text
  pub counts : IsPrefixLen size after
