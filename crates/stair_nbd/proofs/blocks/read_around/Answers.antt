-- What is before the bytes, and what is after them.
use Rattle.std.proofs.Common.{◌≡◌, ◌∙◌, ◌+◌, ◌-◌, ◌<◌, arith, drop, length, length-drop, length-take, refl, sym, ap, ℕ, false}
use Rattle.stair_array.specs.Promise.{Opened}
use Rattle.stair_command.specs.Devices.{device_view, devices}
use Rattle.stair_command.specs.Rack.{rack_view}
use Rattle.stair_nbd.specs.Client.{end_block, end_within, first_block, skipped, was_read}
use Rattle.stair_nbd.proofs.AroundLaws.{around_part, around_whole, ends_in_part, touched_covers}
use Rattle.stair_nbd.proofs.ReadAroundLaws.{FrontRead, around_done, back_kept, back_refused, front_kept, front_refused, none_before, none_behind, none_kept, other_before, read_before, same_behind}
use Rattle.stair_nbd.proofs.TriedLaws.{comes_after, geometry_stays}
use Rattle.stair_nbd.proofs.blocks.read_around.Given.{Over}
use Rattle.stair_nbd.proofs.blocks.read_around.Goals as goal
use Rattle.stair_nbd.proofs.blocks.read_around.Goals.{After-end_within-behind, else-before-eq0+else-end_block-first_block, else-before-gt0, then-before-eq0+in_ok-read-2, then-before-eq0-via-else-before-eq0+then-end_block-first_block, then-before-eq0-via-then-before-eq0, then-before-gt0+in_ok-read}

-- before the bytes is what the first block holds there
front_is : (g : Over) (c : After-end_within-behind g)
    → FrontRead
    (device_view (rack_view g.R.Rack) (λ b. (goal.Watcher-dyn g (b.vtable, b.value)).hears b.value))
    c.args.request.now c.args.blocks.now (devices c.args.rack.now (Opened c.args.array.now) c.args.watchers.now.items)
    c.if-before-gt0.block c.if-before-gt0.blocks (devices c.if-before-gt0.rack (Opened c.if-before-gt0.array) c.if-before-gt0.watchers.items)
front_is g c =
    elim c.if-before-gt0.branch [
      | then-before-gt0+in_ok-read w ↦
          let at : c.skipped-before.result ≡ skipped c.args.request.now = c.skipped-before.ensures.value in
          let some : 0 < skipped c.args.request.now = omega (arith, at, w.if-before-gt0.true) in
          front_kept _ c.args.request.now c.args.blocks.now (devices c.args.rack.now (Opened c.args.array.now) c.args.watchers.now.items)
          w.read.new.into w.read.result (devices w.read.new.rack (Opened w.read.new.self) w.read.new.watchers.items) some _ w.first_block.ensures w.read.ensures.taken
          c.skipped-before.result w.copy_from_slice.new.self _ _ _ (λ i. devices (w.rack-is i) (Opened (w.array-is i)) (w.watchers-is i).items)
          w.block-is w.blocks-is w.copy_from_slice.ensures.after at w.in_ok-read.was w.read.array_long tt w.read.ensures.stay
      | else-before-gt0 w ↦
          none_kept _ c.args.request.now c.args.blocks.now (devices c.args.rack.now (Opened c.args.array.now) c.args.watchers.now.items)
          _ _ _ (λ i. devices (w.rack-is i) (Opened (w.array-is i)) (w.watchers-is i).items) w.blocks-is
          (omega (arith, c.skipped-before.ensures.value, w.if-before-gt0.false)) c.requires.stay
    ]

pub returns-in_err-read-clause-comes : goal.returns-in_err-read-clause-comes
returns-in_err-read-clause-comes g c refused k =
    comes_after _ _ _ refused c.from_residual.result _ _ _ c.from_residual.ensures.1
    (front_refused _ c.args.request.now c.args.blocks.now (devices c.args.rack.now (Opened c.args.array.now) c.args.watchers.now.items)
    c.read.new.into c.read.result (devices c.read.new.rack (Opened c.read.new.self) c.read.new.watchers.items)
    (omega (arith, c.skipped-before.ensures.value, c.if-before-gt0.true)) _ c.first_block.ensures c.read.ensures.taken c.in_err-read.was refused k)

pub slice_bounds-copy_from_slice-end : goal.slice_bounds-copy_from_slice-end
slice_bounds-copy_from_slice-end g c =
    omega (arith, touched_covers c.args.request.now c.requires.some, c.requires.whole, c.skipped-before.ensures.value)

pub slice_bounds-copy_from_slice-end-then-before-gt0 : goal.slice_bounds-copy_from_slice-end-then-before-gt0
slice_bounds-copy_from_slice-end-then-before-gt0 g c =
    omega (
      arith,
      touched_covers c.args.request.now c.requires.some,
      c.requires.whole,
      c.skipped-before.ensures.value,
      length-take c.skipped-before.result c.args.blocks.now,
    )

pub copy_from_slice-requires : goal.copy_from_slice-requires
copy_from_slice-requires g c =
    omega (
      arith,
      touched_covers c.args.request.now c.requires.some,
      c.requires.whole,
      c.skipped-before.ensures.value,
      length-take c.skipped-before.result c.args.blocks.now,
      length-take c.skipped-before.result c.read.new.into,
      c.read.array_long,
    )

pub returns-in_err-read-2-clause-comes : goal.returns-in_err-read-2-clause-comes
returns-in_err-read-2-clause-comes g c refused k =
    let before = c.skipped-before.ensures.value in
    let part : 0 < end_within c.args.request.now = omega (arith, c.end_within-behind.ensures.value, c.if-behind-gt0.true) in
    let was : was_read c.args.request.now ≡ false =
    elim c.then-before-eq0.branch [
      | then-before-eq0-via-then-before-eq0 w ↦ none_before c.args.request.now (omega (arith, before, w.if-before-eq0.true))
      | then-before-eq0-via-else-before-eq0+then-end_block-first_block w ↦
          other_before c.args.request.now
          (λ same. w.if-end_block-first_block.true (w.end_block.ensures ∙ same ∙ sym w.first_block-else-before-eq0.ensures))
    ] in
    comes_after _ _ _ refused c.from_residual-in_err-read-2.result _ _ _ c.from_residual-in_err-read-2.ensures.1
    (back_refused _ c.args.request.now c.args.blocks.now (devices c.args.rack.now (Opened c.args.array.now) c.args.watchers.now.items)
    _ _ _ (front_is g (goal.at.returns-in_err-read-2-clause-comes g c).After-end_within-behind) part was
    c.read-then-before-eq0.new.into c.read-then-before-eq0.result
    (devices c.read-then-before-eq0.new.rack (Opened c.read-then-before-eq0.new.self) c.read-then-before-eq0.new.watchers.items)
    _ c.end_block-then-before-eq0.ensures c.read-then-before-eq0.ensures.taken c.in_err-read-2.was refused k)

pub slice_bounds-copy_from_slice-count : goal.slice_bounds-copy_from_slice-count
slice_bounds-copy_from_slice-count g c =
    omega (arith, touched_covers c.args.request.now c.requires.some, c.requires.whole, c.skipped-before.ensures.value)

pub slice_bounds-copy_from_slice-start : goal.slice_bounds-copy_from_slice-start
slice_bounds-copy_from_slice-start g c =
    omega (arith, touched_covers c.args.request.now c.requires.some, c.requires.whole, c.skipped-before.ensures.value)

pub copy_from_slice-requires-then-behind-gt0 : goal.copy_from_slice-requires-then-behind-gt0
copy_from_slice-requires-then-behind-gt0 g c =
    let end = c.skipped-before.result + c.args.request.now.length in
    let part = ends_in_part c.args.request.now c.requires.some (omega (arith, c.end_within-behind.ensures.value, c.if-behind-gt0.true)) in
    let front = front_is g (goal.at.copy_from_slice-requires-then-behind-gt0 g c).After-end_within-behind in
    let block : length c.if-before-eq0.block ≡ 512 =
    elim c.if-before-eq0.branch [
      | then-before-eq0+in_ok-read-2 w ↦ ap length w.block-is ∙ w.read-then-before-eq0.array_long
      | else-before-eq0+else-end_block-first_block w ↦
          let some : 0 < skipped c.args.request.now = omega (arith, c.skipped-before.ensures.value, w.if-before-eq0.false) in
          ap length (w.block-is ∙ front.here some) ∙ front.sector some
    ] in
    omega (
      arith,
      part,
      c.requires.whole,
      c.skipped-before.ensures.value,
      c.end_within-behind.ensures.value,
      block,
      length-take (length c.if-before-gt0.blocks - end) (drop end c.if-before-gt0.blocks),
      length-drop end c.if-before-gt0.blocks,
      length-take (512 - c.end_within-behind.result) (drop c.end_within-behind.result c.if-before-eq0.block),
      length-drop c.end_within-behind.result c.if-before-eq0.block,
    )

pub returns-after-before-eq0-clause-geometry : goal.returns-after-before-eq0-clause-geometry
returns-after-before-eq0-clause-geometry g c =
    let of = c.args.array.now.member.array.geometry in
    let front = front_is g (goal.at.returns-after-before-eq0-clause-geometry g c).After-end_within-behind in
    elim c.if-before-eq0.branch [
      | then-before-eq0+in_ok-read-2 w ↦
          rw w.array-is (geometry_stays _ (devices c.if-before-gt0.rack (Opened c.if-before-gt0.array) c.if-before-gt0.watchers.items)
          (devices w.read-then-before-eq0.new.rack (Opened w.read-then-before-eq0.new.self) w.read-then-before-eq0.new.watchers.items)
          _ _ w.read-then-before-eq0.ensures.taken tt of (front.geometry of refl))
      | else-before-eq0+else-end_block-first_block w ↦ rw w.array-is (front.geometry of refl)
    ]

pub returns-after-before-eq0-clause-comes : goal.returns-after-before-eq0-clause-comes
returns-after-before-eq0-clause-comes g c refused k =
    let before = c.skipped-before.ensures.value in
    let part : 0 < end_within c.args.request.now = omega (arith, c.end_within-behind.ensures.value, c.if-behind-gt0.true) in
    let front = front_is g (goal.at.returns-after-before-eq0-clause-comes g c).After-end_within-behind in
    elim c.if-before-eq0.branch [
      | then-before-eq0+in_ok-read-2 w ↦
          let was : was_read c.args.request.now ≡ false =
          elim w.then-before-eq0.branch [
            | then-before-eq0-via-then-before-eq0 w' ↦ none_before c.args.request.now (omega (arith, before, w'.if-before-eq0.true))
            | then-before-eq0-via-else-before-eq0+then-end_block-first_block w' ↦
                other_before c.args.request.now
                (λ same. w'.if-end_block-first_block.true (w'.end_block.ensures ∙ same ∙ sym w'.first_block-else-before-eq0.ensures))
          ] in
          around_done _ c.args.request.now c.args.blocks.now (devices c.args.rack.now (Opened c.args.array.now) c.args.watchers.now.items)
          _ _ _ front c.if-before-eq0.block _ (devices c.if-before-eq0.rack (Opened c.if-before-eq0.array) c.if-before-eq0.watchers.items)
          (back_kept _ c.args.request.now front.front _ part was w.read-then-before-eq0.new.into w.read-then-before-eq0.result
          (devices w.read-then-before-eq0.new.rack (Opened w.read-then-before-eq0.new.self) w.read-then-before-eq0.new.watchers.items)
          _ w.end_block-then-before-eq0.ensures w.read-then-before-eq0.ensures.taken c.if-before-eq0.block _
          (λ i. devices (w.rack-is i) (Opened (w.array-is i)) (w.watchers-is i).items) w.block-is w.in_ok-read-2.was)
          (around_part c.args.request.now c.requires.some c.args.blocks.now front.front _ front.long c.requires.whole front.joined
          _ _ _ _ (ap (λ (n : ℕ). n + c.args.request.now.length) before) c.end_within-behind.ensures.value
          (ap length w.block-is ∙ w.read-then-before-eq0.array_long) c.copy_from_slice-then-behind-gt0.ensures.after)
          refused k
      | else-before-eq0+else-end_block-first_block w ↦
          let some : 0 < skipped c.args.request.now = omega (arith, before, w.if-before-eq0.false) in
          let same : end_block c.args.request.now ≡ first_block c.args.request.now = omega (
            arith,
            w.end_block.ensures,
            w.first_block-else-before-eq0.ensures,
            w.if-end_block-first_block.false,
          ) in
          around_done _ c.args.request.now c.args.blocks.now (devices c.args.rack.now (Opened c.args.array.now) c.args.watchers.now.items)
          _ _ _ front c.if-before-eq0.block _ (devices c.if-before-eq0.rack (Opened c.if-before-eq0.array) c.if-before-eq0.watchers.items)
          (same_behind _ c.args.request.now front.front _ part c.if-before-eq0.block _
          (λ i. devices (w.rack-is i) (Opened (w.array-is i)) (w.watchers-is i).items) (w.block-is ∙ front.here some)
          (read_before c.args.request.now some same))
          (around_part c.args.request.now c.requires.some c.args.blocks.now front.front _ front.long c.requires.whole front.joined
          _ _ _ _ (ap (λ (n : ℕ). n + c.args.request.now.length) before) c.end_within-behind.ensures.value
          (ap length (w.block-is ∙ front.here some) ∙ front.sector some) c.copy_from_slice-then-behind-gt0.ensures.after)
          refused k
    ]

pub returns-else-behind-gt0-clause-comes : goal.returns-else-behind-gt0-clause-comes
returns-else-behind-gt0-clause-comes g c refused k =
    let none : end_within c.args.request.now ≡ 0 = omega (arith, c.end_within-behind.ensures.value, c.if-behind-gt0.false) in
    let front = front_is g (goal.at.returns-else-behind-gt0-clause-comes g c).After-end_within-behind in
    around_done _ c.args.request.now c.args.blocks.now (devices c.args.rack.now (Opened c.args.array.now) c.args.watchers.now.items)
    _ _ (devices c.if-before-gt0.rack (Opened c.if-before-gt0.array) c.if-before-gt0.watchers.items) front _ _ _
    (none_behind _ c.args.request.now front.front _ none)
    (around_whole c.args.request.now c.requires.some c.args.blocks.now front.front _ front.long c.requires.whole front.joined none) refused k
