-- What a table reads as.
use Rattle.std.proofs.Common.{◌≡◌, ◌∙◌, ℕ, zero, suc, ◌+◌, List, Result, Ok, Err, refl, sym, ap, subst, None, Some}
use Rattle.std.specs.Prelude.{◌⊎◌, IsUtf8}
use Rattle.std.proofs.lemmas.Option.{same_Some}
use Rattle.toml.specs.Data.{Members, get_member, no_members}
use Rattle.toml.specs.Errors.{IsBlank}
use Rattle.toml.specs.Parse.{lines, parse_document}
use Rattle.stair_model.specs.Geometry.{Geometry, geometry_of, IsFirstBrokenUnder, IsSmall, IsWithinLimits}
use Rattle.stair_conf.specs.declared.key.Key.{Key}
use Rattle.stair_conf.specs.declared.key.Key.TheVariants.{N, M, R, E, Stripes, Id}
use Rattle.stair_conf.specs.declared.fault.ConfigFault.{ConfigFault}
use Rattle.stair_conf.specs.declared.fault.ConfigFault.TheVariants as fault
use Rattle.stair_conf.specs.Config.{HasIdentity, HasKey, HasNumber, HasNumbers, Says, SaysLarge, SizeBy, TableReadsAs, TextReadsAs, name_of, number, place}
use Rattle.stair_model.proofs.FirstLaws.{HoldsBelow, none_below, one_more}
use Rattle.stair_conf.specs.Config.TableReadsAs.{key, limit, geometry}
use Rattle.stair_conf.specs.Config.TextReadsAs.{not_toml}

key_at : ℕ → Key
key_at zero = N
key_at (suc zero) = M
key_at (suc (suc zero)) = R
key_at (suc (suc (suc zero))) = E
key_at (suc (suc (suc (suc zero)))) = Stripes
key_at (suc (suc (suc (suc (suc k))))) = Id

key_at-place : (k : Key) → key_at (place k) ≡ k
unfolding key_at
key_at-place N = refl
key_at-place M = refl
key_at-place R = refl
key_at-place E = refl
key_at-place Stripes = refl
key_at-place Id = refl

-- a place is that of one key
pub same_place : (a b : Key) → place a ≡ place b → a ≡ b
same_place a b same = sym (key_at-place a) ∙ ap key_at same ∙ key_at-place b

-- the key of this place is there
abbrev pub HasKeyAt : Members → ℕ → Type 0
HasKeyAt table i = (other : Key) → place other ≡ i → HasKey table other

-- the keys before this place are there
abbrev pub HasKeysBefore : Members → ℕ → Type 0
HasKeysBefore table k = HoldsBelow (HasKeyAt table) k

pub none_before : (table : Members) → HasKeysBefore table 0
none_before table = none_below (HasKeyAt table)

one_more_key : (table : Members) (here : Key) → HasKeysBefore table (place here) → HasKey table here → HasKeysBefore table (place here + 1)
one_more_key table here before has =
    one_more (HasKeyAt table) (place here) before (λ other same. subst (λ k. HasKey table k) (sym (same_place other here same)) has)

pub before_m : (table : Members) → HasKey table N → HasKeysBefore table 1
before_m table n = one_more_key table N (none_before table) n

pub before_r : (table : Members) → HasKey table N → HasKey table M → HasKeysBefore table 2
before_r table n m = one_more_key table M (before_m table n) m

pub before_e : (table : Members) → HasKey table N → HasKey table M → HasKey table R → HasKeysBefore table 3
before_e table n m r = one_more_key table R (before_r table n m) r

pub before_stripes : (table : Members) → HasKey table N → HasKey table M → HasKey table R → HasKey table E → HasKeysBefore table 4
before_stripes table n m r e = one_more_key table E (before_e table n m r) e

pub before_id : (table : Members) → HasKey table N → HasKey table M → HasKey table R → HasKey table E → HasKey table Stripes
    → HasKeysBefore table 5
before_id table n m r e stripes = one_more_key table Stripes (before_stripes table n m r e) stripes

-- the numbers that were found
pub says : (table : Members) (n m r : ℕ) (e numbers : List ℕ) (stripes : ℕ) (id : List ℕ) → e ≡ numbers
    → HasNumber table N n → HasNumber table M m → HasNumber table R r → HasNumbers table E numbers → HasNumber table Stripes stripes
    → HasIdentity table Id id → Says table (geometry_of n m r e stripes id)
says table n m r e numbers stripes id same has_n has_m has_r has_e has_stripes has_id =
    record { n = has_n; m = has_m; r = has_r; e = rw same has_e; stripes = has_stripes; id = has_id }

-- ---- answers

-- the first faulty key
pub key_refused : (table : Members) (here : Key) (answer : Result Geometry ConfigFault) → answer ≡ Err (fault.Key here)
    → HasKeysBefore table (place here) → ¬ HasKey table here → TableReadsAs table answer
key_refused table here answer is before faulty =
    subst (λ (a : Result Geometry ConfigFault). TableReadsAs table a) (sym is)
    (key here (record { faulty = faulty; before = λ other lower. before (place other) lower other refl }))

-- the first broken limit
pub limit_refused : (table : Members) (g : Geometry) (k : ℕ) (answer : Result Geometry ConfigFault) → answer ≡ Err (fault.Limit k)
    → Says table g → IsFirstBrokenUnder (SizeBy table g) g k → TableReadsAs table answer
limit_refused table g k answer is says broken =
    subst (λ (a : Result Geometry ConfigFault). TableReadsAs table a) (sym is) (limit g k says broken)

pub geometry_read : (table : Members) (g x : Geometry) → x ≡ g → Says table g → IsWithinLimits g → (SaysLarge table ⊎ IsSmall g)
    → TableReadsAs table (Ok x)
geometry_read table g x is says within size =
    subst (λ (a : Geometry). TableReadsAs table (Ok a)) (sym is) (geometry g says within size)

-- ---- texts

pub not_toml_read : (text : List ℕ) (answer : Result Geometry ConfigFault) → answer ≡ Err fault.NotToml
    → (IsUtf8 text → parse_document text ≡ None) → TextReadsAs text answer
not_toml_read text answer is refused =
    subst (λ (a : Result Geometry ConfigFault). TextReadsAs text a) (sym is)
    (not_toml (λ t toml. let none = refused toml.utf8 in let some = toml.document in cc))

-- the table of a text of blanks alone is empty
blank_is_empty : (text : List ℕ) → IsBlank text → parse_document text ≡ Some no_members
unfolding parse_document lines
blank_is_empty text blank = rw blank refl

pub blank_has_no_number : (text : List ℕ) (table : Members) (here : Key) (n : ℕ) → parse_document text ≡ Some table → IsBlank text
    → ¬ HasNumber table here n
blank_has_no_number text table here n document blank has =
    let empty : table ≡ no_members = same_Some table no_members (sym document ∙ blank_is_empty text blank) in
    let none : get_member (name_of here) no_members ≡ Some (number n) = subst (λ (t : Members). HasNumber t here n) empty has in
    cc
