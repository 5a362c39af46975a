-- What the listing program prints (01, Reference file and marked examples: "The listing program ..").
use Rattle.std.specs.Prelude.{ℕ, ◌≡◌, List, [], ◌∷◌, ◌++◌, length}
use Rattle.cdf.specs.Magic.{both_versions}
use Rattle.header.specs.Header.{read_header}
use Rattle.header.specs.declared.reader.HeaderAnswer.{HeaderAnswer as Header}
use Rattle.hexlines.specs.Line.{LineKind, long, hex, file, kind_of}
use Rattle.hexlines.specs.Lines.{lines}
use Rattle.hexlines.specs.Text.{field_text}

-- "Fields: answer number, place, record count, header end"
unfoldable pub header_text : Header → List ℕ
header_text h = field_text h.number h.place h.tables.count h.end

-- the whole file is given, so its size is its length; the program "admits both versions"
unfoldable pub file_text : List ℕ → List ℕ
file_text s = header_text (read_header s (length s) both_versions)

-- `long`, `hex`, or the fields, and a line end
unfoldable pub text : LineKind → List ℕ
text long = 108 ∷ 111 ∷ 110 ∷ 103 ∷ 10 ∷ []
text hex = 104 ∷ 101 ∷ 120 ∷ 10 ∷ []
text (file s) = file_text s

-- one answer for each line, in order
unfoldable pub answers : List (List ℕ) → List ℕ
answers [] = []
answers (l ∷ ls) = text (kind_of l) ++ answers ls

-- `answer place records end`, and a line end
abbrev pub heading : List ℕ
heading = 97 ∷ 110 ∷ 115 ∷ 119 ∷ 101 ∷ 114 ∷ 32 ∷ 112 ∷ 108 ∷ 97 ∷ 99 ∷ 101 ∷ 32 ∷ 114 ∷ 101 ∷ 99 ∷ 111 ∷ 114 ∷ 100 ∷ 115 ∷ 32 ∷ 101 ∷ 110 ∷ 100 ∷ 10 ∷ []

-- what is left to print of a text, after the characters `begun` of its first line
unfoldable pub left : List ℕ → List ℕ → List ℕ
left begun rest = answers (lines begun rest)

-- what the program prints for an input; "empty input prints only the heading"
unfoldable pub listing : List ℕ → List ℕ
listing input = heading ++ left [] input

-- a turn of the program: after the characters `begun` of a line it takes `part` of the text and prints `printed`, and then `begun'` is what it
-- holds of the line that is open, whatever text follows
pub record Turns (begun part printed begun' : List ℕ) : Type 0 where
  pub same : (rest : List ℕ) → left begun (part ++ rest) ≡ printed ++ left begun' rest

-- a run, from a line that is begun and the text that is still to come: turns, each at the line that the turn before left open, until the text
-- ends; then what is left of that line
pub data Runs : List ℕ → List ℕ → List ℕ → Type 0 where
  ends : (begun : List ℕ) → Runs begun [] (left begun [])
  turns : (begun part printed begun' rest more : List ℕ) → Turns begun part printed begun' → Runs begun' rest more → Runs begun (part ++ rest) (printed ++ more)

-- for every input, the output is the heading and then, in order, one answer for each line, however the input is cut into turns
unfoldable pub EveryInput : Type 0
EveryInput = (input more : List ℕ) → Runs [] input more → heading ++ more ≡ listing input
