-- The laws are lemmas.
use Rattle.stair_model.specs.Slots.{HasSlot}
use Rattle.stair_invariant.proofs.AmidRedoLemmas.{redo_begins, redo_ends, redo_goes, redo_represents, redo_under_way}
use Rattle.stair_invariant.proofs.FencesLemmas.{leaves_amid, leaves_open}
use Rattle.stair_invariant.proofs.LeftOutLemmas.{left_fencing, stood_by}
use Rattle.stair_invariant.proofs.OpenWithLemmas.{amid_of, beside_amid, beside_open, epoch_amid, established_open, fenced_amid, fenced_open, issued_apart, issued_beside, keeps_rebuilds, meanwhile_open, rebuilds_on, redone_amid, redone_open, represents_open}
use Rattle.stair_invariant.proofs.SawMoreLemmas.{saw_more}
use Rattle.stair_invariant.proofs.StageBesideLemmas.{phase_beside, phase_spares, stage_amid}
use Rattle.stair_invariant.proofs.open.open_laws.Goals as goal

pub returns-clause-represents : goal.returns-clause-represents
returns-clause-represents c = λ before a words h content is none begun of tolerated. represents_open before a words h is none begun content of tolerated

pub returns-clause-meanwhile : goal.returns-clause-meanwhile
returns-clause-meanwhile c = λ aim gone before a words last content doubt old h new image is none joins promotes f going left of aimed tolerated.
    meanwhile_open before a words old is none aim gone last h new joins promotes f going image left content doubt of aimed tolerated

pub returns-clause-beside : goal.returns-clause-beside
returns-clause-beside c = beside_open

pub returns-clause-established : goal.returns-clause-established
returns-clause-established c = established_open

pub returns-clause-amid : goal.returns-clause-amid
returns-clause-amid c = amid_of

pub returns-clause-epoch : goal.returns-clause-epoch
returns-clause-epoch c = epoch_amid

pub returns-clause-beside_epochs : goal.returns-clause-beside_epochs
returns-clause-beside_epochs c = beside_amid

pub returns-clause-done : goal.returns-clause-done
returns-clause-done c = λ r before a live start h is same done all rebuilt. redone_amid r before a (HasSlot live) start h is same done all rebuilt

pub returns-clause-redone : goal.returns-clause-redone
returns-clause-redone c = λ r before a live old new is begun same ran none going done all rebuilt.
    redone_open r before a (HasSlot live) old new is begun same ran none going done all rebuilt

pub returns-clause-fenced : goal.returns-clause-fenced
returns-clause-fenced c = λ leaving gone before a b start words old new is none leaves st going keeps.
    fenced_open leaving gone before a b start old new none leaves st going keeps words is

pub returns-clause-fenced_amid : goal.returns-clause-fenced_amid
returns-clause-fenced_amid c = λ leaving gone before a b start old new is none leaves st going keeps.
    fenced_amid leaving gone before a b start old new none leaves st going keeps is

pub returns-clause-left : goal.returns-clause-left
returns-clause-left c = left_fencing

pub returns-clause-stood : goal.returns-clause-stood
returns-clause-stood c = stood_by

pub returns-clause-issues : goal.returns-clause-issues
returns-clause-issues c = λ aim gone live m last old new g j next issued.
    (issued_apart aim gone m last old new issued (HasSlot live), issued_beside aim gone m last old new issued g j next)

pub returns-clause-keeps : goal.returns-clause-keeps
returns-clause-keeps c = keeps_rebuilds

pub returns-clause-rebuilds : goal.returns-clause-rebuilds
returns-clause-rebuilds c = rebuilds_on

pub returns-clause-sees : goal.returns-clause-sees
returns-clause-sees c = λ before a slot first second seen words h is begun looks rules out.
    saw_more before a slot first second seen words h is looks rules out begun

pub returns-clause-fences_gone : goal.returns-clause-fences_gone
returns-clause-fences_gone c = λ leaving before a words old y is begun leaves honest below none going.
    leaves_open leaving before a old y leaves honest below begun none going words is

pub returns-clause-fences_gone_amid : goal.returns-clause-fences_gone_amid
returns-clause-fences_gone_amid c = λ leaving before a old y is begun leaves honest below none going.
    leaves_amid leaving before a old y leaves honest below begun none going is

pub returns-clause-phase : goal.returns-clause-phase
returns-clause-phase c = λ r m stage to gone old new redoing alone phase.
    phase_beside r redoing m stage (HasSlot to) alone {gone = HasSlot gone} phase

pub returns-clause-spares : goal.returns-clause-spares
returns-clause-spares c = λ what to gone old new g j next phase out. phase_spares {gone = HasSlot gone} what (HasSlot to) g j next out phase

pub returns-clause-stage : goal.returns-clause-stage
returns-clause-stage c = λ r before a stage to old y redoing is begun over does honest none going.
    stage_amid r redoing before a stage to old y over does honest begun none going is

pub returns-clause-redo_begins : goal.returns-clause-redo_begins
returns-clause-redo_begins c = redo_begins

pub returns-clause-redo_goes : goal.returns-clause-redo_goes
returns-clause-redo_goes c = λ r before a stage to start old y redoing is begun over does honest none going.
    redo_goes r redoing before a stage to start old y over does honest is begun none going

pub returns-clause-redo_ends : goal.returns-clause-redo_ends
returns-clause-redo_ends c = redo_ends

pub returns-clause-redo_represents : goal.returns-clause-redo_represents
returns-clause-redo_represents c = λ r before a stage start h content doubt redoing is none begun old_are new_are frozen label tolerated.
    redo_represents r redoing before a stage start h is none begun content doubt old_are new_are frozen label tolerated

pub returns-clause-redo_under_way : goal.returns-clause-redo_under_way
returns-clause-redo_under_way c = redo_under_way
