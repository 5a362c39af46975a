-- Laws of variables that are put into an output.
use Prim.Native.Nat.{ℕ, ◌+◌, ◌/◌, ◌%◌, ◌≤◌, ◌<◌}
use native.Mathlib.Omega.{arith}
use mathlib.Core.Path.{◌≡◌, refl}
use mathlib.Core.List.{List, [], ◌∷◌, ◌++◌}
use lib.ListN.{length, take, drop, length-append, length-drop}
use lib.Seq.{length-take-le}
use Rattle.cdf.specs.Form.{form}
use Rattle.items.specs.Name.{part}
use Rattle.grammar.specs.declared.tables.Attr.{Attr}
use Rattle.grammar.specs.declared.tables.Var.{Var}
use Rattle.grammar.specs.declared.tables.Tables.{Tables}
use Rattle.rules.specs.Rules.{spelled}
use Rattle.rules.specs.Encode.{each, name_bytes}
use Rattle.rules.proofs.Laws.Spelled.{length-spelled}
use Rattle.writer.specs.Inner.Put.{Put}
use Rattle.writer.specs.Inner.Parts.{start_bytes, attr_out, shape_out, tail_out, attrs_out, var_out, dims_part, globals_part, vars_part, lists_out, header_out}
use Rattle.writer.proofs.Laws.Put.{put_then, put_is}

-- two and three parts one after the other
pub put_two : {s t u : List ℕ} {i j k : ℕ} (x y : List ℕ) → i + length (x ++ y) ≤ length s → Put s i x t j → Put t j y u k → Put s i (x ++ y) u k
put_two x y room f g = let l = length-append x y in put_then (omega arith) f g

pub put_three : {s t u v : List ℕ} {i j k l : ℕ} (x y z : List ℕ) → i + length (x ++ (y ++ z)) ≤ length s → Put s i x t j → Put t j y u k → Put u k z v l → Put s i (x ++ (y ++ z)) v l
put_three x y z room f g h =
    let l = length-append x (y ++ z) in
    let m = length-append y z in
    let p = f.place in
    put_then (omega arith) f (put_then (omega arith) g h)

pub length_three : (x y z : List ℕ) → length (x ++ (y ++ z)) ≡ length x + (length y + length z)
length_three x y z = let l = length-append x (y ++ z) in let m = length-append y z in omega arith

pub length-tail : (version : ℕ) (v : Var) → length (tail_out version v) ≡ 8 + (form version).begin_bytes
length-tail version v =
    let l = length_three (spelled 4 v.code) (spelled 4 v.vsize) (spelled (form version).begin_bytes v.begin) in
    let a = length-spelled 4 v.code in
    let b = length-spelled 4 v.vsize in
    let c = length-spelled (form version).begin_bytes v.begin in
    omega arith

module _ (s : List ℕ) where
  pub length-shape : (v : Var) → length (shape_out s v) ≡ length (name_bytes (form 1) (part s v.name v.chars)) + (4 + length (each (spelled 4) (take v.rank v.ids)))
  length-shape v =
      let l = length_three (name_bytes (form 1) (part s v.name v.chars)) (spelled 4 v.rank) (each (spelled 4) (take v.rank v.ids)) in
      let a = length-spelled 4 v.rank in
      omega arith

  -- the attributes of a variable, as the code cuts them out of the rows
  pub span-out : (xs : List Attr) (first n k : ℕ) → k ≡ n → first + n ≤ length xs → start_bytes 0x0C (length (take k (drop first xs))) ++ each (attr_out s) (take k (drop first xs)) ≡ attrs_out s xs first n
  span-out xs first n k e h =
      let d = length-drop first xs in
      let l = length-take-le n (drop first xs) (omega arith) in
      rw (e, l)

  -- the parts of a variable's row, and room for each where there is room for all
  module _ (version : ℕ) (xs : List Attr) (v : Var) where
    length-var : length (var_out s version xs v) ≡ length (shape_out s v) + (length (attrs_out s xs v.first v.attrs) + length (tail_out version v))
    unfolding var_out
    length-var = length_three (shape_out s v) (attrs_out s xs v.first v.attrs) (tail_out version v)

    module _ {room : ℕ} (i : ℕ) (fits : i + length (var_out s version xs v) ≤ room) where
      pub shape-room : i + length (shape_out s v) ≤ room
      shape-room = let l = length-var in omega arith

      pub attrs-room : {j : ℕ} → j ≡ i + length (shape_out s v) → j + length (attrs_out s xs v.first v.attrs) ≤ room
      attrs-room e = let l = length-var in omega arith

      pub tail-room : {j k : ℕ} → j ≡ i + length (shape_out s v) → k ≡ j + length (attrs_out s xs v.first v.attrs) → k + length (tail_out version v) ≤ room
      tail-room e f = let l = length-var in omega arith

    pub put-var : {o t u w : List ℕ} {i j k l : ℕ} → i + length (var_out s version xs v) ≤ length o → Put o i (shape_out s v) t j → Put t j (attrs_out s xs v.first v.attrs) u k
        → Put u k (tail_out version v) w l → Put o i (var_out s version xs v) w l
    unfolding var_out
    put-var room f g h = put_three (shape_out s v) (attrs_out s xs v.first v.attrs) (tail_out version v) room f g h

-- the first n of the rows of an array, as the code cuts them out
pub front-out : {A : Type 0} (g : A → List ℕ) (tag : ℕ) (xs : List A) {n room : ℕ} → n ≤ room → length xs ≡ room → start_bytes tag (length (take n xs)) ++ each g (take n xs) ≡ start_bytes tag n ++ each g (take n xs)
front-out g tag xs {n} h e = rw (length-take-le n xs (omega arith))

-- CDF and a version as a word
spelled-magic : (v : ℕ) → v < 256 → spelled 4 (1128547840 + v) ≡ 0x43 ∷ 0x44 ∷ 0x46 ∷ v ∷ []
unfolding spelled
spelled-magic v h =
    let n = 1128547840 + v in
    let a : n / 256 / 256 / 256 % 256 ≡ 0x43 = omega arith in
    let b : n / 256 / 256 % 256 ≡ 0x44 = omega arith in
    let c : n / 256 % 256 ≡ 0x46 = omega arith in
    let d : n % 256 ≡ v = omega arith in
    rw (a, b, c, d) refl

module _ (s : List ℕ) (t : Tables) where
  -- the parts of a header, and room for each where there is room for all
  length-lists : length (lists_out s t) ≡ length (dims_part s t) + (length (globals_part s t) + length (vars_part s t))
  unfolding lists_out
  length-lists = length_three (dims_part s t) (globals_part s t) (vars_part s t)

  length-header : length (header_out s t) ≡ 8 + (length (dims_part s t) + (length (globals_part s t) + length (vars_part s t)))
  unfolding header_out
  length-header =
      let l = length_three (0x43 ∷ 0x44 ∷ 0x46 ∷ t.version ∷ []) (spelled 4 t.word) (lists_out s t) in
      let a = length-spelled 4 t.word in
      let b = length-lists in
      omega arith

  module _ {room : ℕ} (i : ℕ) (fits : i + length (header_out s t) ≤ room) where
    pub magic-room : i + 4 ≤ room
    magic-room = let h = length-header in omega arith

    module _ {j : ℕ} (a : j ≡ i + length (spelled 4 (1128547840 + t.version))) where
      pub word-room : j + 4 ≤ room
      word-room = let h = length-header in let w = length-spelled 4 (1128547840 + t.version) in omega arith

      module _ {k : ℕ} (b : k ≡ j + length (spelled 4 t.word)) where
        pub dims-room : k + length (dims_part s t) ≤ room
        dims-room = let h = length-header in let w = length-spelled 4 (1128547840 + t.version) in let x = length-spelled 4 t.word in omega arith

        module _ {l : ℕ} (c : l ≡ k + length (dims_part s t)) where
          pub globals-room : l + length (globals_part s t) ≤ room
          globals-room = let h = length-header in let w = length-spelled 4 (1128547840 + t.version) in let x = length-spelled 4 t.word in omega arith

          pub vars-room : {m : ℕ} → m ≡ l + length (globals_part s t) → m + length (vars_part s t) ≤ room
          vars-room d = let h = length-header in let w = length-spelled 4 (1128547840 + t.version) in let x = length-spelled 4 t.word in omega arith

  pub put_whole : {o p q r u v : List ℕ} {i j k l m n : ℕ} → t.version < 256 → i + length (header_out s t) ≤ length o → Put o i (spelled 4 (1128547840 + t.version)) p j → Put p j (spelled 4 t.word) q k
      → Put q k (dims_part s t) r l → Put r l (globals_part s t) u m → Put u m (vars_part s t) v n → Put o i (header_out s t) v n
  unfolding header_out lists_out
  put_whole low room f g a b c =
      let h = length-header in
      let e = length-lists in
      let w = length-spelled 4 (1128547840 + t.version) in
      let x = length-spelled 4 t.word in
      let y = f.place in
      let z = g.place in
      let lists = put_three (dims_part s t) (globals_part s t) (vars_part s t) (omega (arith, f.long, g.long)) a b c in
      put_three (0x43 ∷ 0x44 ∷ 0x46 ∷ t.version ∷ []) (spelled 4 t.word) (lists_out s t) (omega arith) (put_is f (spelled-magic t.version low)) g lists
