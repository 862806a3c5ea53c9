-- `requests::check` meets its contract: a law for each way out. Rests on Order, and on answers for what `?` hands on.
use mathlib.Core.Path.{sym, ◌∙◌}
use native.Mathlib.Omega.{arith}
use lib.Seq.{length-take-le}
use Rattle.answers.proofs.Found.{the_same, handed_on}
use Rattle.limits.proofs.Order.{after_header, no_word, header_bad, sizes_bad, counted, words_there, words_bad, last_says}
use Rattle.requests.proofs.check.Goals as goal

pub returns-in_default : goal.returns-in_default
returns-in_default c = (no_word _ _ (omega arith), tt)

pub returns-in_err-h : goal.returns-in_err-h
returns-in_err-h c =
    let handed = c.from_residual.ensures.1 in (
      handed_on _ _ handed _
          (header_bad _ _ c.in-len1-up.len_at_least _ c.read_header.ensures _ (after_header c.args.request.now) _ c.in_err-h.ensures.0),
      rw (the_same _ _ handed) tt,
    )

pub returns-in_err-check_sizes : goal.returns-in_err-check_sizes
returns-in_err-check_sizes c =
    let handed = c.from_residual-in_err-check_sizes.ensures.1 in
    let (fine, is) = c.in_ok-h.ensures in (
      handed_on _ _ handed _
          (sizes_bad _ _ c.in-len1-up.len_at_least _ (is ∙ c.read_header.ensures) _ (after_header c.args.request.now) (rw is fine)
          _ c.check_sizes.ensures _ c.in_err-check_sizes.was),
      rw (the_same _ _ handed) tt,
    )

pub slice_bounds-check_words-end : goal.slice_bounds-check_words-end
slice_bounds-check_words-end c =
    let (fine, is) = c.in_ok-h.ensures in
    sym
    (length-take-le _ _
    (words_there _ _ c.in-len1-up.len_at_least _ (is ∙ c.read_header.ensures) _ (after_header c.args.request.now) (rw is fine)
    _ c.check_sizes.ensures c.in_ok-check_sizes.was _ c.placed_count.ensures))

pub returns-in_err-check_words : goal.returns-in_err-check_words
returns-in_err-check_words c =
    let handed = c.from_residual-in_err-check_words.ensures.1 in
    let (fine, is) = c.in_ok-h.ensures in (
      handed_on _ _ handed _
          (words_bad _ _ c.in-len1-up.len_at_least _ (is ∙ c.read_header.ensures) _ (after_header c.args.request.now) (rw is fine)
          _ c.check_sizes.ensures c.in_ok-check_sizes.was _ c.placed_count.ensures _ c.check_words.ensures _ c.in_err-check_words.was),
      rw (the_same _ _ handed) tt,
    )

pub check_last-requires : goal.check_last-requires
check_last-requires c =
    let (fine, is) = c.in_ok-h.ensures in
    counted _ _ c.in-len1-up.len_at_least _ (is ∙ c.read_header.ensures) _ (after_header c.args.request.now) (rw is fine)
    _ c.check_sizes.ensures c.in_ok-check_sizes.was

pub returns-in_err-check_last : goal.returns-in_err-check_last
returns-in_err-check_last c =
    let handed = c.from_residual-in_err-check_last.ensures.1 in
    let (fine, is) = c.in_ok-h.ensures in (
      handed_on _ _ handed _
          (c.in_err-check_last.ensures
          ∙ last_says _ _ c.in-len1-up.len_at_least _ (is ∙ c.read_header.ensures) _ (after_header c.args.request.now) (rw is fine)
          _ c.check_sizes.ensures c.in_ok-check_sizes.was _ c.placed_count.ensures _ c.check_words.ensures c.in_ok-check_words.was),
      rw (the_same _ _ handed) tt,
    )

pub returns : goal.returns
returns c =
    let (fine, is) = c.in_ok-h.ensures in (
      c.in_ok-check_last.ensures
          ∙ last_says _ _ c.in-len1-up.len_at_least _ (is ∙ c.read_header.ensures) _ (after_header c.args.request.now) (rw is fine)
          _ c.check_sizes.ensures c.in_ok-check_sizes.was _ c.placed_count.ensures _ c.check_words.ensures c.in_ok-check_words.was,
      is ∙ c.read_header.ensures,
    )
