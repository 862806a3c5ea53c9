-- `Text::put_bytes` meets its contract. Rests on Written.
use mathlib.Core.Path.{refl}
use Rattle.text.proofs.Written.{copied}
use Rattle.text.proofs.Text.put_bytes.Goals as goal

pub returns : goal.returns
returns c =
    let s = c.args.self.now in
    record { put = rw c.copy_from_slice.ensures.after (copied c.args.bytes.now s.buffer.now s.length c.requires); same_buffer = refl }
