-- Marks along a line, set one by one.
use Rattle.std.proofs.Common.{◌≡◌, ℕ, ◌+◌, ◌<◌, ◌⊎◌, ◌↔◌, List, Bool, true, false, length, set, slice_index, slice_index_or, inl, inr, refl, sym, subst, ap, ◌∙◌, arith}
use Rattle.std.specs.Prelude.{Contains}
use Rattle.std.proofs.lemmas.Bool.{cases_eq}
use Rattle.std.proofs.lemmas.List.{get_or-set_same, get_or-set_other, get_or_default, length-set}
use Rattle.stair_mds.specs.declared.line.Line.{Line}
use Rattle.stair_mds.specs.Solving.{along}
use Rattle.stair_canon.specs.Along.{LiesAt}

-- x is one of the first k of these
abbrev pub IsAmong : List ℕ → ℕ → ℕ → Type 0
IsAmong xs k x = (t : ℕ) × (t < k) × (slice_index xs t ≡ x)

-- an element is among all
pub IsAmong-Contains : (xs : List ℕ) (x : ℕ) → IsAmong xs (length xs) x ↔ Contains xs x
IsAmong-Contains xs x = (
  λ among. (among.0, among.1, get_or_default xs among.0 x 0 among.1 ∙ among.2),
  λ one. (one.0, one.1, get_or_default xs one.0 0 x one.1 ∙ one.2),
)

-- one of the first t places lies at symbol k
abbrev pub LiesAmong : Line → List ℕ → ℕ → ℕ → Type 0
LiesAmong line places t k = (i : ℕ) × (i < t) × (along line (slice_index places i) ≡ k)

-- the symbols at the first t places are marked besides
pub record HasMarked (line : Line) (places : List ℕ) (old new : List Bool) (t : ℕ) : Type 0 where
  pub count : length new ≡ length old
  pub marks :
      (k : ℕ) →
      (slice_index_or new k false ≡ true) ↔ ((slice_index_or old k false ≡ true) ⊎ LiesAmong line places t k)

pub HasMarked-none : (line : Line) (places : List ℕ) (old : List Bool) → HasMarked line places old old 0
HasMarked-none line places old = record {
  count = refl;
  marks = λ k. (
    λ before. inl before,
    λ either. elim either [ inl before ↦ before | inr among ↦ absurd (omega (arith, among.1)) ],
  );
}

-- a mark that is set: it, and those that were set
marked : (known : List Bool) (p : ℕ) → p < length known → (k : ℕ)
    → (slice_index_or (set known p true) k false ≡ true) ↔ ((slice_index_or known k false ≡ true) ⊎ (p ≡ k))
marked known p within k =
    elim (cases_eq k p) [
      | inl here ↦ (
        λ is_marked. inr (sym here),
        λ either. subst (λ (x : ℕ). slice_index_or (set known p true) x false ≡ true) (sym here) (get_or-set_same known p true false within),
      )
      | inr other ↦ (
        λ is_marked. inl (sym (get_or-set_other known p k true false other) ∙ is_marked),
        λ either. elim either [
          | inl before ↦ get_or-set_other known p k true false other ∙ before
          | inr same ↦ absurd (other (sym same))
        ],
      )
    ]

pub HasMarked-more : (line : Line) (places : List ℕ) (old new : List Bool) (t p : ℕ) → HasMarked line places old new t
    → p ≡ along line (slice_index places t) → p < length new → HasMarked line places old (set new p true) (t + 1)
HasMarked-more line places old new t p before is within = record {
  count = length-set new p true ∙ before.count;
  marks = λ k. (
    λ is_marked. elim ((marked new p within k).0 is_marked) [
      | inl earlier ↦
          elim ((before.marks k).0 earlier) [
            | inl old_one ↦ inl old_one
            | inr among ↦ inr (among.0, omega (arith, among.1), among.2)
          ]
      | inr now ↦ inr (t, omega arith, sym is ∙ now)
    ],
    λ either. (marked new p within k).1 (elim either [
      | inl old_one ↦ inl ((before.marks k).1 (inl old_one))
      | inr among ↦
          elim (cases_eq among.0 t) [
            | inl last ↦ inr (is ∙ ap (λ (i : ℕ). along line (slice_index places i)) (sym last) ∙ among.2)
            | inr earlier ↦ inl ((before.marks k).1 (inr (among.0, omega (arith, among.1, earlier), among.2)))
          ]
    ]),
  );
}

-- all of them are marked
pub HasMarked-all : (line : Line) (places : List ℕ) (old new : List Bool) → HasMarked line places old new (length places)
    → (k : ℕ) → (slice_index_or new k false ≡ true) ↔ ((slice_index_or old k false ≡ true) ⊎ LiesAt line places k)
HasMarked-all line places old new all k = (
  λ is_marked. elim ((all.marks k).0 is_marked) [
    | inl before ↦ inl before
    | inr among ↦ inr (slice_index places among.0, (IsAmong-Contains places (slice_index places among.0)).0 (among.0, among.1, refl), among.2)
  ],
  λ either. (all.marks k).1 (elim either [
    | inl before ↦ inl before
    | inr one ↦
        let among = (IsAmong-Contains places one.0).1 one.1 in
        inr (among.0, among.1, ap (along line) among.2 ∙ one.2)
  ]),
)
