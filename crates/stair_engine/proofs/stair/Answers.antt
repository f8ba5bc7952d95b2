-- The job that was read is the one that the words spell.
use Rattle.std.proofs.Common.{◌≡◌, inl, inr, Err, None, Some, map, string_bytes, subst}
use Rattle.stair_conf.proofs.WordsLemmas.{job_line}
use Rattle.stair_conf.specs.declared.job.Job.TheVariants.{Guard, Serve, Volume}
use Rattle.stair_conf.specs.declared.job.VolumeJob.TheVariants.{Read}
use Rattle.stair_conf.specs.declared.fault.WordsFault.{WordsFault}
use Rattle.stair_conf.specs.declared.fault.WordsFault.TheVariants.{Usage}
use Rattle.stair_array.specs.Promise.{Begun}
use Rattle.stair_status.specs.declared.status.Status.TheVariants as status
use Rattle.stair_command.specs.Devices.{device_view}
use Rattle.stair_command.specs.Outside.{outside, views}
use Rattle.stair_command.specs.Rack.{rack_view}
use Rattle.stair_engine.proofs.BoundsLaws.{draws_are_bounded}
use Rattle.stair_engine.proofs.CallLaws.{array_is_left, array_is_made, arrays_are_spared, still_spared}
use Rattle.stair_invariant.specs.Returning.{AnyReturns}
use Rattle.stair_engine.proofs.CompleteLaws.{all_is_complete, all_is_complete_with_reinsertion}
use Rattle.stair_engine.proofs.CountedLaws.{scrubs_are_counted}
use Rattle.stair_engine.proofs.HaltLaws.{guards_halt}
use Rattle.stair_engine.proofs.MadeLaws.{is_made}
use Rattle.stair_engine.proofs.MendedLaws.{array_is_mended}
use Rattle.stair_engine.proofs.ChangedLaws.{volumes_are_changed, volumes_are_read_alike}
use Rattle.stair_engine.proofs.ServeLaws.{clients_are_answered}
use Rattle.stair_engine.proofs.SpelledLaws.{call_borne, job_done, short_borne, spelled}
use Rattle.stair_engine.proofs.StandLaws.{still_stands}
use Rattle.stair_engine.proofs.stair.Goals as goal

pub returns-in-Ok : goal.returns-in-Ok
returns-in-Ok g c =
    let view = views g.S.Source g.K.Sink in
    let devices = device_view (rack_view g.R.Rack) (λ b. (goal.Watcher-dyn g (b.vtable, b.value)).hears b.value) in
    let words = map string_bytes c.args.words.now in
    let old = outside c.args.input.now c.args.output.now c.args.steps.now in
    let whole =
    job_done devices view words old c.args.rack.now c.args.watchers.now.items (Some c.in-Ok.job) c.work.result _ _ _ c.in-Ok.ensures.ok c.work.ensures.means in
    record {
      refines = call_borne devices view words old c.args.rack.now c.args.watchers.now.items c.work.result _ _ _ whole;
      stay = c.work.ensures.stay;
      memory = λ memory. job_line _ c.in-Ok.job c.in-Ok.ensures.ok;
      created = λ honest spells once. array_is_made _ _ _ _ devices view words c.work.result old _ c.args.rack.now _ _ _ whole spells honest once;
      spared = λ honest spells. arrays_are_spared _ _ _ _ devices view words c.work.result old _ c.args.rack.now _ _ _ whole spells honest;
      stands = λ honest other. array_is_left _ _ _ _ devices view words c.work.result old _ c.args.rack.now _ _ _ whole other honest;
      complete = λ job spells. all_is_complete _ _ _ _ devices view words job c.work.result old _ c.args.rack.now _ _ _ spells whole;
      complete_with_reinsertion = λ job spells. all_is_complete_with_reinsertion _ _ _ _ AnyReturns devices view words job c.work.result old _ c.args.rack.now _ _ _ spells;
      halted = λ events fences spells. guards_halt _ _ _ _ devices view words events fences c.work.result old _ c.args.rack.now _ _ _ spells c.requires;
      answered = λ spells returning. clients_are_answered _ _ _ _ returning devices view words c.work.result old _ c.args.rack.now _ _ _ spells;
      volumes = λ job spells. volumes_are_changed _ _ _ _ devices view words job c.work.result old _ c.args.rack.now _ _ _ spells;
      alike = λ name block count spells. volumes_are_read_alike _ _ _ _ devices view words name block count c.work.result old _ c.args.rack.now _ _ _ spells;
      bounded = draws_are_bounded _ _ _ _ devices view words c.work.result old _ c.args.rack.now _ _ _;
      mended = λ job spells honest. array_is_mended _ _ _ _ devices view words job c.work.result old _ c.args.rack.now _ _ _ spells whole honest;
      counted = λ honest spells. scrubs_are_counted _ _ _ _ devices view words c.work.result old _ c.args.rack.now _ _ _ spells whole honest;
    }

pub returns-in-Err-Usage-clause-refines : goal.returns-in-Err-Usage-clause-refines
returns-in-Err-Usage-clause-refines g c =
    let view = views g.S.Source g.K.Sink in
    let devices = device_view (rack_view g.R.Rack) (λ b. (goal.Watcher-dyn g (b.vtable, b.value)).hears b.value) in
    let words = map string_bytes c.args.words.now in
    let old = outside c.args.input.now c.args.output.now c.args.steps.now in
    let usage : c.read_words.result ≡ Err Usage =
    subst (λ (fault : WordsFault). c.read_words.result ≡ Err fault) c.in-Err-Usage.field-0-is c.in-Err-Usage.is
    in
    call_borne devices view words old c.args.rack.now c.args.watchers.now.items status.Usage old _ _
    (record {
      session = Begun;
      with = spelled devices view words old c.args.rack.now c.args.watchers.now.items None
          (λ spelled. c.read_words.ensures.usage usage spelled.0 spelled.1);
    })

pub returns-in-Err-Memory-clause-refines : goal.returns-in-Err-Memory-clause-refines
returns-in-Err-Memory-clause-refines g c =
    let view = views g.S.Source g.K.Sink in
    let devices = device_view (rack_view g.R.Rack) (λ b. (goal.Watcher-dyn g (b.vtable, b.value)).hears b.value) in
    short_borne devices view (map string_bytes c.args.words.now) _ _ _

pub returns-in-Err-Usage-clause-stands : goal.returns-in-Err-Usage-clause-stands
returns-in-Err-Usage-clause-stands g c honest other = still_stands _

pub returns-in-Err-Memory-clause-stands : goal.returns-in-Err-Memory-clause-stands
returns-in-Err-Memory-clause-stands g c honest other = still_stands _

pub returns-in-Err-Usage-clause-spared : goal.returns-in-Err-Usage-clause-spared
returns-in-Err-Usage-clause-spared g c honest spells = still_spared _ _ (λ made. elim made [ inl done ↦ cc | inr fault ↦ cc ])

pub returns-in-Err-Memory-clause-spared : goal.returns-in-Err-Memory-clause-spared
returns-in-Err-Memory-clause-spared g c honest spells = still_spared _ _ (λ made. elim made [ inl done ↦ cc | inr fault ↦ cc ])

pub returns-in-Err-Memory-clause-halted : goal.returns-in-Err-Memory-clause-halted
returns-in-Err-Memory-clause-halted g c events fences spells =
    let view = views g.S.Source g.K.Sink in
    let devices = device_view (rack_view g.R.Rack) (λ b. (goal.Watcher-dyn g (b.vtable, b.value)).hears b.value) in
    guards_halt _ _ _ _ devices view (map string_bytes c.args.words.now) events fences status.OutOfMemory _ _ _ _ _ _ spells c.requires

pub returns-in-Err-Usage-clause-halted : goal.returns-in-Err-Usage-clause-halted
returns-in-Err-Usage-clause-halted g c events fences spells =
    let usage : c.read_words.result ≡ Err Usage =
    subst (λ (fault : WordsFault). c.read_words.result ≡ Err fault) c.in-Err-Usage.field-0-is c.in-Err-Usage.is
    in
    absurd (c.read_words.ensures.usage usage (Guard events fences) spells)

pub returns-in-Err-Memory-clause-volumes : goal.returns-in-Err-Memory-clause-volumes
returns-in-Err-Memory-clause-volumes g c job spells =
    let view = views g.S.Source g.K.Sink in
    let devices = device_view (rack_view g.R.Rack) (λ b. (goal.Watcher-dyn g (b.vtable, b.value)).hears b.value) in
    volumes_are_changed _ _ _ _ devices view (map string_bytes c.args.words.now) job status.OutOfMemory _ _ _ _ _ _ spells

pub returns-in-Err-Usage-clause-volumes : goal.returns-in-Err-Usage-clause-volumes
returns-in-Err-Usage-clause-volumes g c job spells =
    let usage : c.read_words.result ≡ Err Usage =
    subst (λ (fault : WordsFault). c.read_words.result ≡ Err fault) c.in-Err-Usage.field-0-is c.in-Err-Usage.is
    in
    absurd (c.read_words.ensures.usage usage (Volume job) spells)

pub returns-in-Err-Memory-clause-alike : goal.returns-in-Err-Memory-clause-alike
returns-in-Err-Memory-clause-alike g c name block count spells =
    let view = views g.S.Source g.K.Sink in
    let devices = device_view (rack_view g.R.Rack) (λ b. (goal.Watcher-dyn g (b.vtable, b.value)).hears b.value) in
    volumes_are_read_alike _ _ _ _ devices view (map string_bytes c.args.words.now) name block count status.OutOfMemory _ _ _ _ _ _ spells

pub returns-in-Err-Usage-clause-alike : goal.returns-in-Err-Usage-clause-alike
returns-in-Err-Usage-clause-alike g c name block count spells =
    let usage : c.read_words.result ≡ Err Usage =
    subst (λ (fault : WordsFault). c.read_words.result ≡ Err fault) c.in-Err-Usage.field-0-is c.in-Err-Usage.is
    in
    absurd (c.read_words.ensures.usage usage (Volume (Read name block count)) spells)

pub returns-in-Err-Memory-clause-bounded : goal.returns-in-Err-Memory-clause-bounded
returns-in-Err-Memory-clause-bounded g c =
    let view = views g.S.Source g.K.Sink in
    let devices = device_view (rack_view g.R.Rack) (λ b. (goal.Watcher-dyn g (b.vtable, b.value)).hears b.value) in
    draws_are_bounded _ _ _ _ devices view (map string_bytes c.args.words.now) status.OutOfMemory _ _ _ _ _ _

pub returns-in-Err-Usage-clause-bounded : goal.returns-in-Err-Usage-clause-bounded
returns-in-Err-Usage-clause-bounded g c =
    let view = views g.S.Source g.K.Sink in
    let devices = device_view (rack_view g.R.Rack) (λ b. (goal.Watcher-dyn g (b.vtable, b.value)).hears b.value) in
    draws_are_bounded _ _ _ _ devices view (map string_bytes c.args.words.now) status.Usage _ _ _ _ _ _

pub returns-in-Err-Memory-clause-answered : goal.returns-in-Err-Memory-clause-answered
returns-in-Err-Memory-clause-answered g c spells returning =
    let view = views g.S.Source g.K.Sink in
    let devices = device_view (rack_view g.R.Rack) (λ b. (goal.Watcher-dyn g (b.vtable, b.value)).hears b.value) in
    clients_are_answered _ _ _ _ returning devices view (map string_bytes c.args.words.now) status.OutOfMemory _ _ _ _ _ _ spells

pub returns-in-Err-Usage-clause-answered : goal.returns-in-Err-Usage-clause-answered
returns-in-Err-Usage-clause-answered g c spells returning =
    let usage : c.read_words.result ≡ Err Usage =
    subst (λ (fault : WordsFault). c.read_words.result ≡ Err fault) c.in-Err-Usage.field-0-is c.in-Err-Usage.is
    in
    absurd (c.read_words.ensures.usage usage Serve spells)

pub work-requires-clause-some : goal.work-requires-clause-some
work-requires-clause-some g c = is_made (map string_bytes c.args.words.now) c.in-Ok.job c.in-Ok.ensures.ok
