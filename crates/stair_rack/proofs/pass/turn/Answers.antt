use Rattle.stair_rack.proofs.pass.turn.Goals as goal

pub returns-in-Write-clause-does : goal.returns-in-Write-clause-does
returns-in-Write-clause-does g c honest = rw c.in-Write.is (c.write.ensures.does honest)

pub returns-in-Sync-clause-does : goal.returns-in-Sync-clause-does
returns-in-Sync-clause-does g c honest = rw c.in-Sync.is (c.sync.ensures.does honest)
