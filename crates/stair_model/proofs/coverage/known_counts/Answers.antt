-- Each place is looked at.
use Rattle.std.proofs.Common.{ℕ, ◌-◌, ◌+◌, ◌≤◌, [], ◌∷◌, replicate, slice_index, refl, ◌∙◌, lit<, lit≤, below_none, below_more, arith}
use Rattle.std.proofs.lemmas.List.{get_or-append_right, get_or-replicate}
use Rattle.stair_model.specs.Geometry.{classes, coverage}
use Rattle.stair_model.specs.Examples.{eight_devices}
use Rattle.stair_model.proofs.coverage.known_counts.Goals as goal

-- count 2+k is within its entry
EntryCovers : ℕ → Type 0
EntryCovers k = slice_index (4 ∷ 4 ∷ 2 ∷ 1 ∷ 1 ∷ 0 ∷ 0 ∷ 0 ∷ []) (2 + k) ≤ coverage eight_devices (classes eight_devices - 1 - k)

pub returns-clause-eight_within : goal.returns-clause-eight_within
unfolding EntryCovers
returns-clause-eight_within c = record {
  partial_chunks = λ k below inside.
      below_more EntryCovers 2 (below_more EntryCovers 1 (below_more EntryCovers 0 (below_none EntryCovers) (lit≤ tt)) (lit≤ tt)) (lit≤ tt) k below;
  intact_chunks = λ p from to.
      get_or-append_right (4 ∷ 4 ∷ 2 ∷ 1 ∷ 1 ∷ []) (replicate 3 0) 5 p 0 refl from ∙ get_or-replicate 3 (p - 5) 0 0 (omega arith);
}

pub returns-clause-eight_two_twos : goal.returns-clause-eight_two_twos
returns-clause-eight_two_twos c within = let bad = within.partial_chunks 1 (lit< tt) (lit< tt) in omega arith

pub returns-clause-eight_six_chunks : goal.returns-clause-eight_six_chunks
returns-clause-eight_six_chunks c within = let bad = within.intact_chunks 5 (lit≤ tt) (lit< tt) in omega arith

pub returns-clause-four_three_chunks : goal.returns-clause-four_three_chunks
returns-clause-four_three_chunks c within = let bad = within.intact_chunks 2 (lit≤ tt) (lit< tt) in omega arith
