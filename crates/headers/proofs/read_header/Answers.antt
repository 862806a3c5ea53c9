-- `headers::read_header` meets its contract: the header's fields are the word's. Rests on the contract of `split`.
use Rattle.headers.proofs.read_header.Goals as goal

pub returns : goal.returns
returns c =
    let f = c.split-w.ensures in
    rw (f.op_is, f.d_is, f.a_is, f.b_is)
