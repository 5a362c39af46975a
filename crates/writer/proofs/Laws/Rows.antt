-- Laws of rows that are put into an output, one after the other.
use Prim.Native.Nat.{ℕ, zero, suc, ◌+◌, ◌*◌, ◌≤◌, ◌<◌}
use native.Mathlib.Omega.{arith}
use native.Mathlib.Nat.{mul-le-mul_left}
use native.Mathlib.Numerals.{add-one}
use mathlib.Core.Path.{◌≡◌, sym, ap, ◌∙◌}
use mathlib.Core.List.{List, [], ◌∷◌, ◌++◌, append_assoc, append-nil}
use lib.ListN.{length, take, drop, get_or, length-append}
use Rattle.std.proofs.lemmas.List.{get_or_default}
use lib.Seq.{take-suc, take_all, get_or-take, get_or-drop}
use Rattle.cdf.specs.Form.{form}
use Rattle.items.specs.Name.{part}
use Rattle.items.specs.Types.{size_of}
use Rattle.grammar.specs.declared.tables.Dim.{Dim}
use Rattle.grammar.specs.declared.tables.Attr.{Attr}
use Rattle.rules.specs.Rules.{spelled}
use Rattle.rules.specs.Encode.{padded_out, each, name_bytes, dim_bytes, attr_bytes}
use Rattle.rules.proofs.Laws.Spelled.{length-spelled}
use Rattle.writer.specs.Inner.Put.{Put}
use Rattle.writer.specs.Inner.Parts.{start_bytes, dim_out, attr_out}
use Rattle.writer.proofs.Laws.Put.{put_then, put_is, put-nothing, length-start}

-- an item more
each_last : {A : Type 0} (g : A → List ℕ) (xs : List A) (x : A) → each g (xs ++ (x ∷ [])) ≡ each g xs ++ g x
unfolding each
each_last g [] x = append-nil (g x)
each_last g (y ∷ xs) x = ap (λ (l : List ℕ). g y ++ l) (each_last g xs x) ∙ sym (append_assoc (g y) (each g xs) (g x))

each_more : {A : Type 0} (g : A → List ℕ) (xs : List A) (i : ℕ) (d : A) → i < length xs → each g (take (i + 1) xs) ≡ each g (take i xs) ++ g (get_or xs i d)
each_more g xs i d h = ap (each g) (ap (λ (n : ℕ). take n xs) (add-one i) ∙ take-suc xs i d h) ∙ each_last g (take i xs) (get_or xs i d)

-- fewer items take no more room
each-less : {A : Type 0} (g : A → List ℕ) (xs : List A) (i n : ℕ) → i ≤ n → length (each g (take i xs)) ≤ length (each g (take n xs))
unfolding each
each-less g xs zero n h = omega arith
each-less g [] (suc i) n h = omega arith
each-less g (x ∷ xs) (suc i) zero h = absurd (omega arith)
each-less g (x ∷ xs) (suc i) (suc n) h =
    let a = length-append (g x) (each g (take i xs)) in
    let b = length-append (g x) (each g (take n xs)) in
    let c = each-less g xs i n (omega arith) in
    omega arith

-- items one after the other: the first i of them have been put into an output that has room for all
pub record Items {A : Type 0} (g : A → List ℕ) (xs : List A) (before : List ℕ) (at : ℕ) (after : List ℕ) (r i : ℕ) : Type 0 where
  pub few : i ≤ length xs
  pub room : at + length (each g xs) ≤ length before
  pub put : Put before at (each g (take i xs)) after r

pub no-items : {A : Type 0} (g : A → List ℕ) (xs : List A) (s : List ℕ) (at : ℕ) → at + length (each g xs) ≤ length s → Items g xs s at s at 0
unfolding each
no-items g xs s at h = record { few = omega arith; room = h; put = put-nothing s at }

module _ {A : Type 0} {g : A → List ℕ} {xs : List A} {s t : List ℕ} {at p i : ℕ} (f : Items g xs s at t p i) where
  module _ {x : A} (h : i < length xs) (is : x ≡ get_or xs i x) where
    more : each g (take (i + 1) xs) ≡ each g (take i xs) ++ g x
    more = each_more g xs i x h ∙ ap (λ (y : A). each g (take i xs) ++ g y) (sym is)

    up : length (each g (take (i + 1) xs)) ≤ length (each g xs)
    up = let e = ap (λ (ys : List A). length (each g ys)) (take_all (length xs) xs (omega arith)) in let l = each-less g xs (i + 1) (length xs) (omega arith) in omega arith

    pub item-room : p + length (g x) ≤ length t
    item-room =
        let a = ap length more ∙ length-append (each g (take i xs)) (g x) in
        let b = up in
        let q = f.put in
        let r = f.room in
        omega arith

    pub one-item : {u : List ℕ} {q : ℕ} → Put t p (g x) u q → Items g xs s at u q (i + 1)
    one-item e =
        let a = ap length more ∙ length-append (each g (take i xs)) (g x) in
        let b = up in
        let q = f.put in
        let r = f.room in
        record { few = omega arith; room = r; put = put_is (put_then (omega arith) q e) (sym more) }

  pub all-items : length xs ≤ i → Put s at (each g xs) t p
  all-items h = put_is f.put (ap (each g) (take_all i xs h))

-- a list: its start, and its items
pub put-list : {s t u : List ℕ} {i j k : ℕ} (tag n : ℕ) (items : List ℕ) → i + length (start_bytes tag n ++ items) ≤ length s → Put s i (start_bytes tag n) t j → Put t j items u k → Put s i (start_bytes tag n ++ items) u k
put-list tag n items room f g = let l = length-append (start_bytes tag n) items in put_then (omega arith) f g

pub length-list : (tag n : ℕ) (items : List ℕ) → length (start_bytes tag n ++ items) ≡ 8 + length items
length-list tag n items = length-append (start_bytes tag n) items ∙ ap (λ (k : ℕ). k + length items) (length-start tag n)

-- a dimension
pub length-dim : (s : List ℕ) (d : Dim) → length (dim_out s d) ≡ length (name_bytes (form 1) (part s d.name d.chars)) + 4
unfolding dim_bytes
length-dim s d = length-append (name_bytes (form 1) (part s d.name d.chars)) (spelled 4 d.length) ∙ ap (λ (n : ℕ). length (name_bytes (form 1) (part s d.name d.chars)) + n) (length-spelled 4 d.length)

pub put-dim : {o t u : List ℕ} {i j k : ℕ} (s : List ℕ) (d : Dim) → i + length (dim_out s d) ≤ length o → Put o i (name_bytes (form 1) (part s d.name d.chars)) t j → Put t j (spelled 4 d.length) u k → Put o i (dim_out s d) u k
unfolding dim_bytes
put-dim s d room f g = let l = length-append (name_bytes (form 1) (part s d.name d.chars)) (spelled 4 d.length) in put_then (omega arith) f g

-- an attribute
abbrev values_of : List ℕ → Attr → List ℕ
values_of s a = part s a.values (a.count * size_of a.code)

pub length-attr : (s : List ℕ) (a : Attr) → length (attr_out s a) ≡ length (name_bytes (form 1) (part s a.name a.chars)) + 8 + length (padded_out (part s a.values (a.count * size_of a.code)))
unfolding attr_bytes
length-attr s a =
    let n = name_bytes (form 1) (part s a.name a.chars) in
    let x = spelled 4 a.code in
    let y = spelled 4 a.count in
    let z = padded_out (values_of s a) in
    let i = length-append n (x ++ (y ++ z)) in
    let j = length-append x (y ++ z) in
    let k = length-append y z in
    let l = length-spelled 4 a.code in
    let m = length-spelled 4 a.count in
    omega arith

pub put-attr : {o t u v w : List ℕ} {i j k l m : ℕ} (s : List ℕ) (a : Attr) → i + length (attr_out s a) ≤ length o
    → Put o i (name_bytes (form 1) (part s a.name a.chars)) t j → Put t j (spelled 4 a.code) u k → Put u k (spelled 4 a.count) v l
    → Put v l (padded_out (part s a.values (a.count * size_of a.code))) w m → Put o i (attr_out s a) w m
unfolding attr_bytes
put-attr s a room f g h e =
    let b = length-attr s a in
    let x = length-spelled 4 a.code in
    let y = length-spelled 4 a.count in
    let c = f.place in
    let d = g.place in
    put_then (omega arith) f (put_then (omega arith) g (put_then (omega arith) h e))

-- a row of a span of rows
pub in-span : {A : Type 0} (xs : List A) (first n i : ℕ) (d x : A) → i < n → first + i < length xs → x ≡ get_or (take n (drop first xs)) i x → x ≡ get_or xs (first + i) d
in-span xs first n i d x h l e = e ∙ get_or-take n (drop first xs) i x h ∙ get_or-drop first xs i x ∙ get_or_default xs (first + i) x d l

-- and of the first rows
pub in-front : {A : Type 0} (xs : List A) (n i : ℕ) (d x : A) → i < n → i < length xs → x ≡ get_or (take n xs) i x → x ≡ get_or xs i d
in-front xs n i d x h l e = e ∙ get_or-take n xs i x h ∙ get_or_default xs i x d l

-- the bytes of values fit 64 bits by far
pub bytes-fit-wide : (count width : ℕ) → count < 4294967296 → width ≤ 8 → count * width < 34359738368
bytes-fit-wide count width h l = let b = mul-le-mul_left count l in omega arith
