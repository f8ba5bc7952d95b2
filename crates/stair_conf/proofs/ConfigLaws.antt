-- A geometry text reads as one answer.
use Rattle.std.proofs.Common.{◌≡◌, ◌∙◌, ◌↔◌, ℕ, List, [], ◌∷◌, Some, Result, Ok, Err, length, map, refl, sym, ap}
use Rattle.std.specs.Prelude.{◌⊎◌, IsOk}
use Rattle.std.specs.List.{AllPass}
use Rattle.std.proofs.lemmas.Option.{same_Some}
use Rattle.hex.specs.Hex.{decode_sized, is_hex_digit}
use Rattle.hex.specs.declared.error.FromHexError.{FromHexError}
use Rattle.hex.proofs.HexLemmas.{IsOk-decode_sized}
use Rattle.toml.specs.Data.{Members, get_member, string}
use Rattle.stair_model.specs.Geometry.{Geometry, geometry_of, IsFirstBrokenUnder, IsSmall, IsWithinLimits}
use Rattle.stair_conf.specs.declared.key.Key.{Key}
use Rattle.stair_conf.specs.declared.key.Key.TheVariants.{N, M, R, E, Stripes, Id}
use Rattle.stair_conf.specs.declared.fault.ConfigFault.{ConfigFault}
use Rattle.stair_conf.specs.declared.fault.ConfigFault.TheVariants as fault
use Rattle.stair_conf.specs.Config.{HasIdentity, HasKey, HasNumber, HasNumbers, IsFirstFaultyKey, IsToml, Says, SaysLarge, SizeBy, TableReadsAs, TextReadsAs, name_of, number, place}
use Rattle.stair_conf.specs.Config.TableReadsAs.{key, limit, geometry}
use Rattle.stair_conf.specs.Config.TextReadsAs.{not_toml, table}
use Rattle.stair_conf.proofs.ConfigLemmas.{same_array}
use Rattle.stair_model.proofs.FirstLaws.{one_first}
use Rattle.stair_model.proofs.LimitLaws.{none_under, one_limit}
use Rattle.stair_conf.proofs.TableLemmas.{HasKeyAt, same_place}

-- ---- a table says one geometry

same_number : (t : Members) (k : Key) (a b : ℕ) → HasNumber t k a → HasNumber t k b → a ≡ b
same_number t k a b has_a has_b = let same : number a ≡ number b = same_Some _ _ (sym has_a ∙ has_b) in cc

same_map : (a b : List ℕ) → map number a ≡ map number b → a ≡ b
same_map [] [] same = refl
same_map [] (y ∷ b) same = cc
same_map (x ∷ a) [] same = cc
same_map (x ∷ a) (y ∷ b) same =
    let heads : number x ≡ number y = cc in
    let tails : map number a ≡ map number b = cc in
    let others : a ≡ b = same_map a b tails in
    cc

same_numbers : (t : Members) (k : Key) (a b : List ℕ) → HasNumbers t k a → HasNumbers t k b → a ≡ b
same_numbers t k a b has_a has_b = same_map a b (same_array _ _ (same_Some _ _ (sym has_a ∙ has_b)))

same_identity : (t : Members) (k : Key) (a b : List ℕ) → HasIdentity t k a → HasIdentity t k b → a ≡ b
same_identity t k a b has_a has_b =
    let strings : string has_a.0 ≡ string has_b.0 = same_Some _ _ (sym has_a.1 ∙ has_b.1) in
    let digits : has_a.0 ≡ has_b.0 = cc in
    let decoded = sym has_a.2 ∙ ap (λ d. decode_sized d 16) digits ∙ has_b.2 in
    cc

same_geometry : (t : Members) (g h : Geometry) → Says t g → Says t h → g ≡ h
same_geometry t g h a b =
    let n_same : g.n ≡ h.n = same_number t N g.n h.n a.n b.n in
    let m_same : g.m ≡ h.m = same_number t M g.m h.m a.m b.m in
    let r_same : g.r ≡ h.r = same_number t R g.r h.r a.r b.r in
    let e_same : g.e ≡ h.e = same_numbers t E g.e h.e a.e b.e in
    let stripes_same : g.stripes ≡ h.stripes = same_number t Stripes g.stripes h.stripes a.stripes b.stripes in
    let id_same : g.id ≡ h.id = same_identity t Id g.id h.id a.id b.id in
    let whole : geometry_of g.n g.m g.r g.e g.stripes g.id ≡ geometry_of h.n h.m h.r h.e h.stripes h.id = cc in
    whole

says_key : (t : Members) (g : Geometry) → Says t g → (k : Key) → HasKey t k
says_key t g says N = (g.n, says.n)
says_key t g says M = (g.m, says.m)
says_key t g says R = (g.r, says.r)
says_key t g says E = (g.e, says.e)
says_key t g says Stripes = (g.stripes, says.stripes)
says_key t g says Id = (g.id, says.id)

one_key : (t : Members) (a b : Key) → IsFirstFaultyKey t a → IsFirstFaultyKey t b → a ≡ b
one_key t a b first_a first_b =
    same_place a b
    (one_first (HasKeyAt t) (place a) (place b) (λ all. first_a.faulty (all a refl))
    (λ i below other here. first_a.before other (rw here below)) (λ all. first_b.faulty (all b refl))
    (λ i below other here. first_b.before other (rw here below)))

-- ---- answers

broken_none : (t : Members) (g : Geometry) (k : ℕ) → IsFirstBrokenUnder (SizeBy t g) g k → IsWithinLimits g → ¬ (SaysLarge t ⊎ IsSmall g)
broken_none t g k broken within size = none_under (SizeBy t g) g k broken within (within.size, size)

one_of_table : (t : Members) (a b : Result Geometry ConfigFault) → TableReadsAs t a → TableReadsAs t b → a ≡ b
one_of_table t a b (key k first) (key l other) = ap (λ k. Err (fault.Key k)) (one_key t k l first other)
one_of_table t a b (key k first) (limit h l says broken) = absurd (first.faulty (says_key t h says k))
one_of_table t a b (key k first) (geometry h says within size) = absurd (first.faulty (says_key t h says k))
one_of_table t a b (limit g k says broken) (key l other) = absurd (other.faulty (says_key t g says l))
one_of_table t a b (limit g k says broken) (limit h l also also_broken) =
    let same : g ≡ h = same_geometry t g h says also in
    ap (λ k. Err (fault.Limit k)) (one_limit (SizeBy t g) g k l broken (rw same also_broken))
one_of_table t a b (limit g k says broken) (geometry h also within size) =
    let same : g ≡ h = same_geometry t g h says also in
    absurd (broken_none t g k broken (rw same within) (rw same size))
one_of_table t a b (geometry g says within size) (key l other) = absurd (other.faulty (says_key t g says l))
one_of_table t a b (geometry g says within size) (limit h l also broken) =
    let same : g ≡ h = same_geometry t g h says also in
    absurd (broken_none t h l broken (rw (← same) within) (rw (← same) size))
one_of_table t a b (geometry g says within size) (geometry h also also_within also_size) = ap Ok (same_geometry t g h says also)

same_table : (text : List ℕ) (t u : Members) → IsToml text t → IsToml text u → t ≡ u
same_table text t u a b = same_Some t u (sym a.document ∙ b.document)

pub one_answer : (text : List ℕ) (a b : Result Geometry ConfigFault) → TextReadsAs text a → TextReadsAs text b → a ≡ b
one_answer text a b (not_toml none) (not_toml also) = refl
one_answer text a b (not_toml none) (table u y toml reads) = absurd (none u toml)
one_answer text a b (table t x toml reads) (not_toml none) = absurd (none t toml)
one_answer text a b (table t x toml reads) (table u y also other) =
    one_of_table t x y reads (rw (same_table text t u toml also) other)

-- ---- identities

some_bytes : (r : Result (List ℕ) FromHexError) → IsOk r → (id : List ℕ) × (r ≡ Ok id)
some_bytes (Ok id) is = (id, refl)
some_bytes (Err e) is = cc

pub identity_digits : (t : Members) → HasKey t Id ↔ ((digits : List ℕ)
    × (get_member (name_of Id) t ≡ Some (string digits)) × (length digits ≡ 32) × AllPass is_hex_digit digits)
identity_digits t = (
  (λ has.
      let digits = has.1.0 in
      let told = (IsOk-decode_sized digits 16).0 (rw has.1.2 refl) in
      (digits, has.1.1, told.0, told.1)),
  (λ has.
      let bytes = some_bytes (decode_sized has.0 16) ((IsOk-decode_sized has.0 16).1 (has.2, has.3)) in
      (bytes.0, (has.0, has.1, bytes.1))),
)
