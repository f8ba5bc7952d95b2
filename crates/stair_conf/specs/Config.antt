-- What a geometry text says: a TOML table with the keys n, m, r, e, stripes and id, and of a large array the key large.
use Rattle.std.specs.Prelude.{◌≡◌, ◌⊎◌, ℕ, ◌<◌, true, pos, List, map, codes, Some, Result, Ok, Err, IsUtf8}
use Rattle.hex.specs.Hex.{decode_sized}
use Rattle.toml.specs.Data.{Data, Members, Items, item, get_member, boolean, string, integer, array}
use Rattle.toml.specs.View.{items_of}
use Rattle.toml.specs.Parse.{parse_document}
use Rattle.stair_model.specs.Geometry.{Geometry, HasSize, IsFirstBrokenUnder, IsSmall, IsWithinLimits}
use Rattle.stair_conf.specs.declared.key.Key.{Key}
use Rattle.stair_conf.specs.declared.key.Key.TheVariants.{N, M, R, E, Stripes, Id}
use Rattle.stair_conf.specs.declared.fault.ConfigFault.{ConfigFault}
use Rattle.stair_conf.specs.declared.fault.ConfigFault.TheVariants as fault

-- the text is TOML, and this is its table
pub record IsToml (text : List ℕ) (table : Members) : Type 0 where
  pub utf8 : IsUtf8 text
  pub document : parse_document text ≡ Some table

-- the key as the text has it
abbrev pub name_of : Key → List ℕ
name_of N = codes "n"
name_of M = codes "m"
name_of R = codes "r"
name_of E = codes "e"
name_of Stripes = codes "stripes"
name_of Id = codes "id"

-- a whole number that isn't negative
abbrev pub number : ℕ → Data
number n = integer (pos n)

abbrev pub HasNumber : Members → Key → ℕ → Type 0
HasNumber table key n = get_member (name_of key) table ≡ Some (number n)

-- an array of such numbers
abbrev pub HasNumbers : Members → Key → List ℕ → Type 0
HasNumbers table key numbers = get_member (name_of key) table
    ≡ Some (array (items_of (map number numbers)))

-- a string of 32 hexadecimal digits, which spell these sixteen bytes
abbrev pub HasIdentity : Members → Key → List ℕ → Type 0
HasIdentity table key id = (digits : List ℕ)
    × (get_member (name_of key) table ≡ Some (string digits)) × (decode_sized digits 16 ≡ Ok id)

-- the table has the numbers of this geometry, whether or not they keep the limits
pub record Says (table : Members) (g : Geometry) : Type 0 where
  pub n : HasNumber table N g.n
  pub m : HasNumber table M g.m
  pub r : HasNumber table R g.r
  pub e : HasNumbers table E g.e
  pub stripes : HasNumber table Stripes g.stripes
  pub id : HasIdentity table Id g.id

-- the text lets the array be a large one; any other value of the key is looked at as little as other keys
abbrev pub SaysLarge : Members → Type 0
SaysLarge table = get_member (codes "large") table ≡ Some (boolean true)

-- the eighth limit of a text
abbrev pub SizeBy : Members → Geometry → Type 0
SizeBy table g = HasSize g × (SaysLarge table ⊎ IsSmall g)

-- the key is there, with a value of its kind
abbrev pub HasKey : Members → Key → Type 0
HasKey table N = (n : ℕ) × HasNumber table N n
HasKey table M = (m : ℕ) × HasNumber table M m
HasKey table R = (r : ℕ) × HasNumber table R r
HasKey table E = (e : List ℕ) × HasNumbers table E e
HasKey table Stripes = (stripes : ℕ) × HasNumber table Stripes stripes
HasKey table Id = (id : List ℕ) × HasIdentity table Id id

-- the order in which the keys are looked at
abbrev pub place : Key → ℕ
place N = 0
place M = 1
place R = 2
place E = 3
place Stripes = 4
place Id = 5

-- the first key that is missing, or has a value of another kind
pub record IsFirstFaultyKey (table : Members) (key : Key) : Type 0 where
  pub faulty : ¬ HasKey table key
  pub before : (other : Key) → place other < place key → HasKey table other

-- an array that begins with such a number
abbrev pub BeginsNumbers : Members → Key → Type 0
BeginsNumbers table key = (n : ℕ) × (rest : Items)
    × (get_member (name_of key) table ≡ Some (array (item (number n) rest)))

-- the tables for which memory is taken: N, M and R have their numbers, and E has one to be kept
pub record TakesMemory (table : Members) : Type 0 where
  pub n : HasKey table N
  pub m : HasKey table M
  pub r : HasKey table R
  pub e : BeginsNumbers table E

-- what is answered for a table
pub data TableReadsAs (table : Members) : Result Geometry ConfigFault → Type 0 where
  key : (key : Key) → IsFirstFaultyKey table key → TableReadsAs table (Err (fault.Key key))
  limit : (g : Geometry) (k : ℕ) → Says table g → IsFirstBrokenUnder (SizeBy table g) g k →
      TableReadsAs table (Err (fault.Limit k))
  geometry : (g : Geometry) → Says table g → IsWithinLimits g → (SaysLarge table ⊎ IsSmall g) →
      TableReadsAs table (Ok g)

-- what is answered for a text
pub data TextReadsAs (text : List ℕ) : Result Geometry ConfigFault → Type 0 where
  not_toml : ((table : Members) → ¬ IsToml text table) → TextReadsAs text (Err fault.NotToml)
  table : (table : Members) (answer : Result Geometry ConfigFault) → IsToml text table →
      TableReadsAs table answer → TextReadsAs text answer
