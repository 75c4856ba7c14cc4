-- The cache stays ready from pin to pin.
use Rattle.cache.specs.SetUp.{Ready}
use Rattle.cases.proofs.cache_helpers.check_pins.Given as goal

abbrev pub invariant-loop-sector : goal.invariant-loop-sector
invariant-loop-sector g l = Ready g.D.Disk g.P.Policy l.set_up
