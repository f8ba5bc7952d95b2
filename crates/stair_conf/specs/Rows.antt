-- The rows of clap's matches that have words of a job.
use Rattle.std.specs.Prelude.{◌≡◌, ℕ, ◌^◌, ◌<◌, List, Some, All, codes, map}
use Rattle.std.specs.Fmt.{decimal}
use Rattle.clap.specs.Words.{Row, Text, all_of, first_of}
use Rattle.stair_conf.specs.declared.job.Method.{Method}
use Rattle.stair_conf.specs.Name.{IsName}
use Rattle.stair_conf.specs.Words.{IsText, method_word}

-- the first word of this id is the number's
pub record HasNumberWord (rows : List Row) (id : Text) (n : ℕ) : Type 0 where
  pub first : first_of id rows ≡ Some (decimal n)
  pub fits : n < 2 ^ 64

-- the words of this id are the numbers'
pub record HasNumberWords (rows : List Row) (id : Text) (numbers : List ℕ) : Type 0 where
  pub all : all_of id rows ≡ Some (map decimal numbers)
  pub fit : All (λ n. n < 2 ^ 64) numbers

-- the first word of this id is the method's
pub record HasMethodWord (rows : List Row) (id : Text) (method : Method) : Type 0 where
  pub first : first_of id rows ≡ Some (method_word method)

-- the first word of this id is this text
pub record HasTextWord (rows : List Row) (id text : Text) : Type 0 where
  pub first : first_of id rows ≡ Some text
  pub is_text : IsText text

-- the first word of this id is this name of a volume
pub record HasNameWord (rows : List Row) (id name : Text) : Type 0 where
  pub first : first_of id rows ≡ Some name
  pub is_name : IsName name

-- the rows N, M, R and E have the numbers of a geometry
pub record HasGeometry (rows : List Row) (n m r : ℕ) (e : List ℕ) : Type 0 where
  pub n_word : HasNumberWord rows (codes "N") n
  pub m_word : HasNumberWord rows (codes "M") m
  pub r_word : HasNumberWord rows (codes "R") r
  pub e_words : HasNumberWords rows (codes "E") e

-- the rows N, M and R have some numbers
pub record HasThreeNumbers (rows : List Row) : Type 0 where
  pub n_word : (n : ℕ) × HasNumberWord rows (codes "N") n
  pub m_word : (m : ℕ) × HasNumberWord rows (codes "M") m
  pub r_word : (r : ℕ) × HasNumberWord rows (codes "R") r

-- the rows NUMBER and COUNT have these numbers
pub record HasCounted (rows : List Row) (number count : ℕ) : Type 0 where
  pub number_word : HasNumberWord rows (codes "NUMBER") number
  pub count_word : HasNumberWord rows (codes "COUNT") count

-- the rows NAME and BLOCKS have this name, and this number of blocks, at least 1
pub record HasNewVolume (rows : List Row) (name : Text) (blocks : ℕ) : Type 0 where
  pub name_word : HasNameWord rows (codes "NAME") name
  pub blocks_word : HasNumberWord rows (codes "BLOCKS") blocks
  pub some : 0 < blocks

-- the rows NAME, BLOCK and COUNT have this name and these numbers
pub record HasVolumeBlocks (rows : List Row) (name : Text) (block count : ℕ) : Type 0 where
  pub name_word : HasNameWord rows (codes "NAME") name
  pub block_word : HasNumberWord rows (codes "BLOCK") block
  pub count_word : HasNumberWord rows (codes "COUNT") count
