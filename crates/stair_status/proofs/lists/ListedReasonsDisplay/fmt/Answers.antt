-- One slot more.
use Rattle.std.proofs.Common.{◌≡◌, ℕ, ◌+◌, Bool, true, false, not, List, [], ◌∷◌, ◌++◌, refl, sym, ap, ◌∙◌, add-one, append_assoc}
use Rattle.std.proofs.Output.{has_written_append, has_written_of_eq}
use Rattle.std.specs.Prelude.{codes, slice_index_or}
use Rattle.std.specs.Fmt.{decimal}
use Rattle.stair_member.specs.Reasons.{words_of}
use Rattle.stair_member.specs.contracts.why.Why.{the_type}
use Rattle.stair_member.specs.declared.why.Why.{Why}
use Rattle.stair_member.specs.declared.why.Why.TheVariants.{Here, Gone, NoSuper, OtherArray, OtherSlot, MarkedDown, OtherJoined, Rebuilding}
use Rattle.stair_status.specs.Status.{listed, reasons_text, slot_reason, with_reason}
use Rattle.stair_status.proofs.Texts.{is_empty}
use Rattle.stair_status.proofs.lists.ListedReasonsDisplay.fmt.Goals.{then-ne+in_ok-write-2, then-not-is_first+in_ok-write, else-not-is_first, else-ne}
use Rattle.stair_status.proofs.lists.ListedReasonsDisplay.fmt.Goals as goal
use denote.Enum.Bare.{sameb}

-- a reason that isn't here is told
with_told : (before : List ℕ) (j : ℕ) (why : Why) (differs : Bool) → differs ≡ not (sameb the_type why Here) → differs ≡ true
    → with_reason before j why ≡ listed before (slot_reason j why)
with_told before j Here differs same is = cc
with_told before j Gone differs same is = refl
with_told before j NoSuper differs same is = refl
with_told before j OtherArray differs same is = refl
with_told before j OtherSlot differs same is = refl
with_told before j MarkedDown differs same is = refl
with_told before j OtherJoined differs same is = refl
with_told before j Rebuilding differs same is = refl

-- and here is not
with_here : (before : List ℕ) (j : ℕ) (why : Why) (differs : Bool) → differs ≡ not (sameb the_type why Here) → differs ≡ false
    → with_reason before j why ≡ before
with_here before j Here differs same is = refl
with_here before j Gone differs same is = cc
with_here before j NoSuper differs same is = cc
with_here before j OtherArray differs same is = cc
with_here before j OtherSlot differs same is = cc
with_here before j MarkedDown differs same is = cc
with_here before j OtherJoined differs same is = cc
with_here before j Rebuilding differs same is = cc

-- the first of the list, and one after others
listed_first : (before text : List ℕ) (first : Bool) → first ≡ is_empty before → first ≡ true → before ++ text ≡ listed before text
listed_first [] text first same is = refl
listed_first (x ∷ xs) text first same is = cc

listed_behind : (before text : List ℕ) (first : Bool) → first ≡ is_empty before → first ≡ false → (before ++ codes ", ") ++ text ≡ listed before text
listed_behind [] text first same is = cc
listed_behind (x ∷ xs) text first same is = refl

-- a reason has some bytes
some_behind : (front : List ℕ) (x : ℕ) (xs back : List ℕ) → false ≡ is_empty (front ++ (x ∷ xs) ++ back)
some_behind [] x xs back = refl
some_behind (y ∷ ys) x xs back = refl

-- the slot, and the words after it
words_told : (j : ℕ) (why : Why) (words : List ℕ) → words ≡ words_of why → decimal j ++ (codes " " ++ words) ≡ slot_reason j why
words_told j why words is =
    ap (λ (text : List ℕ). decimal j ++ (codes " " ++ text)) is ∙ sym (append_assoc (decimal j) (codes " ") (words_of why))

-- a list with some text has some bytes
some_listed : (before text : List ℕ) → false ≡ is_empty text → false ≡ is_empty (listed before text)
some_listed [] text some = some
some_listed (x ∷ xs) text some = refl

-- the next text, where the reason is told
next_told : (whys : List Why) (j : ℕ) (differs : Bool) → differs ≡ not (sameb the_type (slice_index_or whys j Here) Here) → differs ≡ true
    → reasons_text whys (j + 1) ≡ listed (reasons_text whys j) (slot_reason j (slice_index_or whys j Here))
next_told whys j differs same is =
    ap (reasons_text whys) (add-one j) ∙ with_told (reasons_text whys j) j (slice_index_or whys j Here) differs same is

-- and where it isn't
next_here : (whys : List Why) (j : ℕ) (differs : Bool) → differs ≡ not (sameb the_type (slice_index_or whys j Here) Here) → differs ≡ false
    → reasons_text whys (j + 1) ≡ reasons_text whys j
next_here whys j differs same is =
    ap (reasons_text whys) (add-one j) ∙ with_here (reasons_text whys j) j (slice_index_or whys j Here) differs same is

-- some reason was told
next_some : (whys : List Why) (j : ℕ) (differs : Bool) → differs ≡ not (sameb the_type (slice_index_or whys j Here) Here) → differs ≡ true
    → false ≡ is_empty (reasons_text whys (j + 1))
next_some whys j differs same is =
    let why = slice_index_or whys j Here in
    some_listed (reasons_text whys j) (slot_reason j why) (some_behind (decimal j) 32 [] (words_of why))
    ∙ ap is_empty (sym (next_told whys j differs same is))

pub loop-slot-preserved : goal.loop-slot-preserved
loop-slot-preserved g c =
    let whys = c.args.self.now.whys in
    let j = c.loop-slot.slot-counter in
    let before = c.loop-slot.invariant in
    let told = slot_reason j (slice_index_or whys j Here) in
    elim c.if-ne.branch [
      | then-ne+in_ok-write-2 w ↦
          let next = next_told whys j c.ne.result c.ne.ensures w.if-ne.true in
          let words = words_told j (slice_index_or whys j Here) w.words.result.now w.words.ensures in
          let none = w.is_first-is ∙ next_some whys j c.ne.result c.ne.ensures w.if-ne.true in
          elim w.if-not-is_first.branch [
            | then-not-is_first+in_ok-write w' ↦ record {
              none = none;
              text = λ plain.
                  let comma = has_written_append _ _ _ _ _ _ (before.text plain)
                  (rw (← w'.f-is) at (w'.in_ok-write.ensures.writes (before.text plain).plain (refl {a = true}))) in
                  rw w.f-is
                  (has_written_of_eq _ _ _ _ _
                  (ap (λ (text : List ℕ). (reasons_text whys j ++ codes ", ") ++ text) words
                  ∙ listed_behind (reasons_text whys j) told c.loop-slot.is_first before.none w'.if-not-is_first.true ∙ sym next)
                  (has_written_append _ _ _ _ _ _ comma (w.in_ok-write-2.ensures.writes comma.plain (refl {a = true}))));
            }
            | else-not-is_first w' ↦ record {
              none = none;
              text = λ plain.
                  let first = rw (← w'.f-is) at (before.text plain) in
                  rw w.f-is
                  (has_written_of_eq _ _ _ _ _
                  (ap (λ (text : List ℕ). reasons_text whys j ++ text) words
                  ∙ listed_first (reasons_text whys j) told c.loop-slot.is_first before.none w'.if-not-is_first.false ∙ sym next)
                  (has_written_append _ _ _ _ _ _ first (w.in_ok-write-2.ensures.writes first.plain (refl {a = true}))));
            }
          ]
      | else-ne w ↦
          let next = next_here whys j c.ne.result c.ne.ensures w.if-ne.false in record {
            none = w.is_first-is ∙ before.none ∙ ap is_empty (sym next);
            text = λ plain. rw w.f-is (has_written_of_eq _ _ _ _ _ (sym next) (before.text plain));
          }
    ]
