-- What it means that a text is appended to the one in a lent buffer, and that there is room for it.
-- Rests on Text's Put.
use Rattle.std.specs.Prelude.{◌≡◌, List, ℕ, ◌+◌, ◌≤◌, length}
use Rattle.text.specs.Text.{Put}
use Rattle.text.specs.declared.Text.{Text}

-- Room for that many bytes more.
abbrev pub Room : (bytes : ℕ) → Text → Type 0
Room bytes t = t.length + bytes ≤ length t.buffer.now

-- `text` is written after what was written before: at most `most` bytes of it, and nothing else in the buffer is changed, which stays the lent one.
pub record Appended (most : ℕ) (text : List ℕ) (before after : Text) : Type 0 where
  pub put : Put most text before.buffer.now after.buffer.now before.length after.length
  pub same_buffer : after.buffer.ghost_name ≡ before.buffer.ghost_name
