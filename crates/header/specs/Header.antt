-- What the header reader answers (01, Answer numbers and Order).
use Rattle.std.specs.Prelude.{ℕ, ◌&&◌, ◌≡◌, Result, Ok, Err, List, length, leb, eqb}
use Rattle.cdf.specs.Step.{Step, got, stop, bind, need, into}
use Rattle.cdf.specs.Refusals.{number}
use Rattle.cdf.specs.declared.refusal.Stop.{Stop}
use Rattle.cdf.specs.declared.version.Admitted.{Admitted}
use Rattle.grammar.specs.Tables.{blank, laid, with_count}
use Rattle.grammar.specs.Grammar.{header}
use Rattle.model.specs.Model.{model_holds}
use Rattle.sizes.specs.Records.{sizes_hold, ends_hold, max_position}
use Rattle.sizes.specs.Count.{record_count}
use Rattle.grammar.specs.declared.tables.Tables.{Tables}
use Rattle.header.specs.declared.reader.Header.{Header as Read}
use Rattle.header.specs.declared.reader.HeaderAnswer.{HeaderAnswer}

-- 01: "A header refusal returns its number, a place, and tables of version 1 with all else 0. Ends .. are 0 in any refusal"
unfoldable pub refusal : ℕ → ℕ → HeaderAnswer
refusal k p = record { number = k; place = p; end = 0; tables = blank }

-- the answer that a step gives; 01: "the header's end is answered beside" the tables
unfoldable pub answer : Step Tables → HeaderAnswer
answer (got t e) = record { number = 0; place = 0; end = e; tables = t }
answer (stop k p) = refusal k p

-- 01, Order: "then 11, 12, 14, 13, 15", each at place 0; the tables that were read get their count
unfoldable pub judged : List ℕ → Tables → ℕ → Step Tables
judged s t e =
    need (model_holds s t) 11 0 (
    need (sizes_hold t) 12 0 (
    bind (record_count t) (λ n _.
    need (ends_hold t n) 15 0 (
    got (with_count t n) e))))

-- 01, Order: "21; then 1 to 10 from left to right .. then 11, 12, 14, 13, 15"
unfoldable pub read_header : List ℕ → ℕ → Admitted → HeaderAnswer
read_header s size a =
    answer (
    need (leb (length s) size && leb size max_position) 21 0 (
    bind (into laid (header a s size)) (
    judged s)))

-- what follows a header that is accepted, or its refusal
abbrev pub after_header : {A : Type 0} → HeaderAnswer → (HeaderAnswer → Step A) → Step A
after_header h f = need (eqb h.number 0) h.number h.place (f h)

-- what the code's result tells
abbrev pub header_of : Result Read Stop → HeaderAnswer
header_of (Ok h) = record { number = 0; place = 0; end = h.end; tables = h.tables }
header_of (Err k) = refusal (number k.why) k.place

-- the header reader's contract: r tells its answer to a prefix s of a file of that size, where the versions of a are admitted
abbrev pub Conforms : List ℕ → ℕ → Admitted → Result Read Stop → Type 0
Conforms s size a r = header_of r ≡ read_header s size a
