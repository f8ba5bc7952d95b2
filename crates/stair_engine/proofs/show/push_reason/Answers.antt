-- A blank, and the words.
use Rattle.std.proofs.Common.{◌≡◌, ◌≢◌, ◌++◌, append_assoc, refl, ap, ◌∙◌}
use Rattle.std.specs.Prelude.{codes}
use Rattle.stair_super.specs.declared.mark.Mark.{Mark}
use Rattle.stair_super.specs.declared.mark.Mark.TheVariants as mark
use Rattle.stair_member.specs.Reasons.{words_of}
use Rattle.stair_member.specs.declared.why.Why.{Why}
use Rattle.stair_member.specs.declared.why.Why.TheVariants.{Here, Gone, NoSuper, OtherArray, OtherSlot, MarkedDown, OtherJoined, Rebuilding}
use Rattle.stair_engine.specs.Show.{reason_text}
use Rattle.stair_engine.proofs.show.push_reason.Goals.{in_default-via-in-Live+in_default, in_default-via-in-Rebuilding+in_default}
use Rattle.stair_engine.proofs.show.push_reason.Goals as goal

-- the words of a live slot that isn't merely here
live_text : (why : Why) → why ≢ Here → reason_text mark.Live why ≡ codes " " ++ words_of why
live_text Here not = absurd (not refl)
live_text Gone not = refl
live_text NoSuper not = refl
live_text OtherArray not = refl
live_text OtherSlot not = refl
live_text MarkedDown not = refl
live_text OtherJoined not = refl
live_text Rebuilding not = refl

-- and of a slot that is rebuilt, of another reason
rebuilding_text : (why : Why) → why ≢ Rebuilding → reason_text mark.Rebuilding why ≡ codes " " ++ words_of why
rebuilding_text Here not = refl
rebuilding_text Gone not = refl
rebuilding_text NoSuper not = refl
rebuilding_text OtherArray not = refl
rebuilding_text OtherSlot not = refl
rebuilding_text MarkedDown not = refl
rebuilding_text OtherJoined not = refl
rebuilding_text Rebuilding not = absurd (not refl)

live_told : (m : Mark) (why : Why) → m ≡ mark.Live → why ≢ Here → reason_text m why ≡ codes " " ++ words_of why
live_told m why is not = ap (λ (k : Mark). reason_text k why) is ∙ live_text why not

rebuilding_told : (m : Mark) (why : Why) → m ≡ mark.Rebuilding → why ≢ Rebuilding → reason_text m why ≡ codes " " ++ words_of why
rebuilding_told m why is not = ap (λ (k : Mark). reason_text k why) is ∙ rebuilding_text why not

pub returns-in_default-clause-text : goal.returns-in_default-clause-text
returns-in_default-clause-text c =
    let why = c.args.why in
    let told : reason_text c.args.mark why ≡ codes " " ++ words_of why =
    elim c.in_default.branch [
      | in_default-via-in-Live+in_default w ↦ live_told c.args.mark why w.in_default.is-0 w.in_default.not-Here-1
      | in_default-via-in-Rebuilding+in_default w ↦ rebuilding_told c.args.mark why w.in_default.is-0 w.in_default.not-Rebuilding-1
    ]
    in
    rw told (simp (c.push-in_default.ensures.text, c.push.ensures.text, c.as_bytes.ensures.value, c.words.ensures, append_assoc))
