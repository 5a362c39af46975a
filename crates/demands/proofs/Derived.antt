-- Accepted headers and derivations.
use Prim.Native.Nat.{ℕ, zero, suc, ◌+◌, ◌^◌, ◌≤◌, ◌<◌}
use native.Mathlib.Omega.{arith}
use mathlib.Core.Path.{◌≡◌, refl, sym, ap, subst, ◌∙◌}
use mathlib.Core.Bool.{true, ◌&&◌}
use mathlib.Core.List.{List, [], ◌∷◌, ◌++◌, map}
use lib.ListN.{length, get_or, drop}
use lib.Dec.{leb}
use borrow.Author.Tests.{leb-true, le-leb}
use Rattle.cdf.specs.Step.{got}
use Rattle.cdf.specs.Below.{all_below}
use Rattle.cdf.specs.Magic.{admits, version_byte}
use Rattle.cdf.specs.declared.version.Admitted.{Admitted}
use Rattle.cdf.proofs.Laws.Below.{both, holds_at}
use Rattle.cdf.proofs.Laws.Step.{bind-came, test-came, got_same, into-got, by-got, by-true, either}
use Rattle.grammar.specs.Tree.{Tree, VarItem}
use Rattle.grammar.specs.Tables.{laid, with_count, var_rows, no_var, zero_var, var_at}
use Rattle.grammar.specs.Grammar.{header}
use Rattle.grammar.specs.Meaning.{Contents, Variable, variable, contents, held, said}
use Rattle.grammar.specs.declared.tables.Tables.{Tables}
use Rattle.grammar.proofs.Laws.Meaning.{laid-held}
use Rattle.grammar.proofs.Laws.Tables.{get_or-padded, length-rows}
use Rattle.grammar.proofs.Laws.Within.{read-within}
use Rattle.rules.specs.Rules.{Header as Derives}
use Rattle.rules.specs.Capacity.{fits}
use Rattle.rules.proofs.Laws.Views.{EachIs, fits-see, fits-tell, range-see, range-tell}
use Rattle.rules.proofs.Laws.Sound.{header-sound, hand-came}
use Rattle.rules.proofs.Laws.Complete.{header-complete}
use Rattle.rules.proofs.Laws.Capacity.{read_fits, each_map}
use Rattle.rules.proofs.Laws.Sequence.{all_of}
use Rattle.rules.proofs.Laws.Unique.{header-unique}
use Rattle.rules.proofs.Laws.Encoded.{encode-derived}
use Rattle.rules.proofs.Laws.Range.{header-range}
use Rattle.rules.proofs.Laws.Weaken.{header-more}
use Rattle.rules.proofs.Laws.Cleared.{header-back}
use Rattle.sizes.specs.Records.{sizes_hold, max_position, padded_bytes, max_chunk, record_size}
use Rattle.sizes.specs.Count.{record_count}
use Rattle.header.specs.Header.{answer, judged, read_header}
use Rattle.header.specs.declared.reader.HeaderAnswer.{HeaderAnswer as Header}
use Rattle.header.proofs.Laws.Accepted.{accepted-came, same-model, same-sizes, same_count, same_ends}
use Rattle.demands.specs.Derived.{Allowed, AcceptedIsDerived, DerivedIsRead, OneMeaning, NoPrefix, EncodeIsDerived, DerivedIsInRange, BytesBack}

-- the begin of a row is that of its variable
row-begin : (first : ℕ) (vs : List VarItem) (i : ℕ) → i < length vs → (get_or (var_rows first vs) i no_var).begin ≡ (get_or vs i (record { name = 0; chars = 0; ids = []; attrs = []; code = 0; vsize = 0; begin = 0 })).begin
unfolding var_rows
row-begin first [] i h = absurd (omega arith)
row-begin first (v ∷ vs) zero h = refl
row-begin first (v ∷ vs) (suc i) h = row-begin (first + length v.attrs) vs i (omega arith)

-- rule 12 bounds every begin
begins-small : (s : List ℕ) (h : Tree) → length h.vars ≤ 64 → sizes_hold (laid h) ≡ true → EachIs (λ (v : Variable). v.begin ≤ 2 ^ 62) (map (variable s) h.vars)
unfolding sizes_hold laid
begins-small s h few k =
    let t = laid h in
    let p = both (all_below (length h.vars) (λ i. leb (var_at t i).begin max_position && leb (padded_bytes t.dims (var_at t i)) max_chunk)) (leb (record_size t) max_chunk) k in
    each_map (variable s) (λ (v : Variable). v.begin ≤ 2 ^ 62) h.vars
    (all_of (λ (v : VarItem). v.begin ≤ 2 ^ 62) (record { name = 0; chars = 0; ids = []; attrs = []; code = 0; vsize = 0; begin = 0 }) h.vars (λ i l.
    let q = holds_at _ (length h.vars) i p.0 l in
    let b = leb-true (var_at t i).begin max_position (both (leb (var_at t i).begin max_position) _ q).0 in
    let n = length-rows (length h.globals) h.vars in
    let e = get_or-padded 64 zero_var no_var (var_rows (length h.globals) h.vars) i (omega arith) (omega arith) in
    let r = row-begin (length h.globals) h.vars i l in
    subst (λ (k : ℕ). k ≤ 2 ^ 62) (ap (λ v. v.begin) e ∙ r) b))

-- a version that was read was admitted
pub admitted : (s : List ℕ) (size : ℕ) (a : Admitted) {h : Tree} {e : ℕ} → got h e ≡ header a s size → admits a h.version ≡ true
unfolding header version_byte
admitted s size a {h} g =
    let Q = admits a h.version ≡ true in
    bind-came _ _ g Q (λ _ _ _ i.
    bind-came _ _ i Q (λ v _ c j.
    let b = test-came _ _ (hand-came s size c).1 in
    let ok : admits a v ≡ true = subst (λ (k : ℕ). admits a k ≡ true) (sym (got_same b.1)) b.0 in
    bind-came _ _ j Q (λ _ _ _ k.
    bind-came _ _ k Q (λ _ _ _ l.
    bind-came _ _ l Q (λ _ _ _ m.
    bind-came _ _ m Q (λ _ _ _ u. subst (λ (h : Tree). admits a h.version ≡ true) (sym (got_same u)) ok))))))

module _ (s : List ℕ) (size : ℕ) (a : Admitted) where
  -- what the tables of a tree that was read say
  pub read-said : {h : Tree} {e : ℕ} (n : ℕ) → got h e ≡ header a s size → (said s (with_count (laid h) n)).contents ≡ contents s h
  unfolding held
  read-said {h} n g = ap (contents s) (laid-held h (read-within a s size (into-got laid refl g)))

-- a count has no place
count-placeless : {n p : ℕ} (t : Tables) → got n p ≡ record_count t → p ≡ 0
unfolding record_count
count-placeless {n} {p} t g =
    either _ _ _ g (λ h. either _ _ _ h (λ i. either _ _ _ i (λ j. got-at (test-came _ _ (test-came _ _ j).1).1) got-at) got-at) got-at
  where
    got-at : {k : ℕ} → got n p ≡ got k 0 → p ≡ 0
    got-at e = cc

pub accepted-is-derived : AcceptedIsDerived
unfolding AcceptedIsDerived laid
accepted-is-derived s size a bytes z =
    let c = accepted-came s size a z in
    let h = c.tree in
    let n = c.count in
    let few = read-within a s size (into-got laid refl c.read) in
    let same = read-said s size a n c.read in
    let d = header-sound s size bytes a c.read (begins-small s h few.vars c.sizes) in
    let k = c.counted in
    subst (λ (x : Header). Derives s (drop x.end s) (said s x.tables).contents × Allowed s size a x.tables) (sym c.is) (
      subst (λ (m : Contents). Derives s (drop c.end s) m) (sym same) d,
      record {
        inside = c.inside;
        small = c.small;
        version = admitted s size a c.read;
        capacities = ap fits same ∙ fits-tell (contents s h) (read_fits s size a c.read);
        model = same-model s (laid h) n ∙ c.model;
        sizes = same-sizes (laid h) n ∙ c.sizes;
        count = same_count (laid h) n ∙ sym k.1 ∙ ap (λ (p : ℕ). got n p) (count-placeless (laid h) k.1);
        ends = same_ends (laid h) n n ∙ c.ends;
      },
    )

pub derived-is-read : DerivedIsRead
unfolding DerivedIsRead read_header held
derived-is-read s u m size a d k ad inside small =
    let c = header-complete s size a ad (fits-see m k) d in
    let h = c.0 in
    let t = c.1 in
    let ok : (leb (length s) size && leb size max_position) ≡ true = rw (le-leb (length s) size inside, le-leb size max_position small) in
    let back = laid-held h (read-within a s size (into-got laid refl t.taken)) in
    (laid h, t.end, t.rest, ap (contents s) back ∙ c.2, sym (ap answer (by-true _ ok (by-got (judged s) _ (into-got laid refl t.taken) refl))))

pub one-meaning : OneMeaning
unfolding OneMeaning
one-meaning = header-unique

pub no-prefix : NoPrefix
unfolding NoPrefix
no-prefix s more m m' d d' = (header-unique (s ++ more) more [] m m' (header-more more s [] m d) d').0

pub encode-is-derived : EncodeIsDerived
unfolding EncodeIsDerived
encode-is-derived m u k = encode-derived m u (range-see m k)

pub derived-is-in-range : DerivedIsInRange
unfolding DerivedIsInRange
derived-is-in-range s u m d = range-tell m (header-range s u m d)

pub bytes_back : BytesBack
unfolding BytesBack
bytes_back s u m d = sym (header-back s u m d)
