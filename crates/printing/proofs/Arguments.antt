-- The desk's listings by its argument: `all` asks for every yard, and no other argument does; what it asks for, and what it does not change.
-- Rests on Listed and text's Compared.
use mathlib.Core.Path.{◌≡◌, sym}
use mathlib.Core.Logic.{◌↔◌, ◌≢◌}
use mathlib.Core.Bool.{true}
use mathlib.Core.List.{List, []}
use Prim.Native.Nat.{ℕ}
use Rattle.text.specs.Text.{same_bytes}
use Rattle.text.proofs.Compared.{same_bytes_are, different}
use Rattle.demands.specs.Run.{outcome}
use Rattle.printing.specs.Bytes.{request_of}
use Rattle.printing.specs.Desk.{desk_lent, all_word, asks_all, desk_text}
use Rattle.printing.specs.Listings.{Listings}
use Rattle.printing.proofs.Listed.{listings, refused_alike}

pub asks : (argument : List ℕ) → (asks_all argument ≡ true) ↔ (argument ≡ all_word)
asks argument = same_bytes_are argument all_word

-- Any other argument counts as none.
pub as_none : (argument bytes : List ℕ) → argument ≢ all_word → desk_text argument bytes ≡ desk_text [] bytes
unfolding desk_text same_bytes
as_none argument bytes other = rw (sym (different argument all_word other))

module _ (bytes : List ℕ) where
  -- Without a refusal, no argument leaves out the lines of unreached yards, and nothing else.
  pub desk_listings : (outcome (request_of bytes) desk_lent).answer.number ≡ 0
      → Listings (request_of bytes) desk_lent (desk_text [] bytes) (desk_text all_word bytes)
  unfolding desk_text same_bytes
  desk_listings unrefused = listings (request_of bytes) desk_lent unrefused

  -- A refusal is printed as it is, whatever the argument.
  pub desk_refused : (outcome (request_of bytes) desk_lent).answer.number ≢ 0 → desk_text [] bytes ≡ desk_text all_word bytes
  unfolding desk_text same_bytes
  desk_refused refused = refused_alike (request_of bytes) (outcome (request_of bytes) desk_lent) refused
