-- What the desk's program and `host_log` print, as functions of the bytes that they read and, for the desk's, of its first argument.
-- Rests on Bytes, Texts and the outcomes of runs.
use Rattle.std.specs.Prelude.{Bool, List, [], ◌∷◌, ℕ, pos, replicate}
use Rattle.text.specs.Text.{same_bytes}
use Rattle.plans.specs.Plan.{by_kind}
use Rattle.demands.specs.Run.{Lent, outcome}
use Rattle.printing.specs.Bytes.{request_of}
use Rattle.printing.specs.Texts.{text_of, log_text}

-- Document 01: "Its log holds 8,192 words and its bank 1,190 cells". Results for as many vertices as a request can have, and pairs of them.
abbrev pub desk_lent : Lent
desk_lent =
    record {
      cells = replicate 1190 (pos 0);
      log = replicate 8192 0;
      results = by_kind (replicate 1024 (pos 0)) (replicate 32 (pos 0)) (replicate 31 (pos 0));
    }

-- "all"
abbrev pub all_word : List ℕ
all_word = 97 ∷ 108 ∷ 108 ∷ []

-- The listing of every yard is asked for by the first argument `all`. Any other counts as none, and none is the empty one (document 02, ask 6).
abbrev pub asks_all : (argument : List ℕ) → Bool
asks_all argument = same_bytes argument all_word

-- The run does not see the argument.
unfoldable pub desk_text : (argument bytes : List ℕ) → List ℕ
desk_text argument bytes = text_of (asks_all argument) (request_of bytes) (outcome (request_of bytes) desk_lent)

unfoldable pub host_text : (bytes : List ℕ) → List ℕ
host_text bytes = log_text (outcome (request_of bytes) desk_lent)
