-- An optional answer is one thing, and superblocks are the same where their fields are.
use Rattle.std.proofs.Common.{◌≡◌, ℕ, List, Option, Some, None, sym, ap, ◌∙◌}
use Rattle.stair_super.specs.declared.configuration.Configuration.{Configuration}
use Rattle.stair_super.specs.declared.version.Version.{Version}
use Rattle.stair_super.specs.Superblock.{Superblock, superblock_of}
use Rattle.stair_super.specs.Spelling.{SpellsSuperblock, spelled_in}

pub some_is : {A : Type 0} (x y : A) (a : Option A) → a ≡ Some x → a ≡ Some y → x ≡ y
some_is {A = A} x y a is is' =
    let both : ◌≡◌ {A = Option A} (Some x) (Some y) = sym is ∙ is' in
    cc

pub no_none : {A : Type 0} (x : A) (a : Option A) → a ≡ None → a ≡ Some x → ⊥
no_none {A = A} x a is is' =
    let both : ◌≡◌ {A = Option A} None (Some x) = sym is ∙ is' in
    cc

pub same_configuration : (a b : Configuration) → a.geometry ≡ b.geometry → a.epoch ≡ b.epoch → a.marks ≡ b.marks → a.joins ≡ b.joins → a.frozen ≡ b.frozen → a.label ≡ b.label → a ≡ b
same_configuration a b geometry epoch marks joins frozen label =
    λ i. record { geometry = geometry i; epoch = epoch i; marks = marks i; joins = joins i; frozen = frozen i; label = label i }

pub same_fields : (s : Superblock) (array : Configuration) (slot joined draw : ℕ) → array ≡ s.array → slot ≡ s.slot → joined ≡ s.joined → draw ≡ s.draw → superblock_of array slot joined draw ≡ s
same_fields s array slot joined draw a b c d = λ i. record { array = a i; slot = b i; joined = c i; draw = d i }

-- what is read is spelled as it was
pub spelled_again : (bytes : List ℕ) (s block : Superblock) (version : Version) (spells : SpellsSuperblock bytes s) → version ≡ spells.version → block ≡ s → bytes ≡ spelled_in version block
spelled_again bytes s block version spells same is =
    spells.text
    ∙ ap (λ (v : Version). spelled_in v s) (sym same)
    ∙ ap (λ (b : Superblock). spelled_in version b) (sym is)
