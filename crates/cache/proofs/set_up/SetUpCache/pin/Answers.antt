use Rattle.std.proofs.Common.{◌≡◌, ◌<◌, true, false, is_some, is_ok, sym, refl, ap, ◌∙◌, arith, rules}
use Rattle.std.proofs.lemmas.Grind.{common_steps}
use Rattle.disk.specs.Meaning.{serves}
use Rattle.cache.specs.Places.{held}
use Rattle.cache.proofs.Keys.{found_none}
use Rattle.cache.proofs.SetUps.{pin_kept}
use Rattle.cache.proofs.set_up.SetUpCache.pin.Goals as goal

pub returns-clause-kept : goal.returns-clause-kept
returns-clause-kept g c =
    let s = c.args.self.now in
    let x = c.args.sector in
    let none : is_some c.find.result ≡ false = search rules in
    let out = found_none (held s.store) x (rw c.find.ensures at none) in
    let room : s.store.pinned < 8 = omega (arith, c.pins.ensures.value, c.pins.ensures.bounded.few, c.if-self-pins.false) in
    let served : serves (g.D.Disk.meaning s.below) x 512 ≡ true = sym (ap is_ok (sym c.in_ok-read.was ∙ c.read.ensures.answers)) in
    pin_kept g.D.Disk g.P.Policy g.met.P.Policy.shape s c.requires x out room served _ _
    (rw served at c.read.ensures.after) c.pin.ensures (rw served at c.read.ensures.fills) refl refl c.read.ensures.kept

-- By the one tactic that proves it: where the code is wrong no other is tried.
pub returns-then-is_some-clause-pinned : goal.returns-then-is_some-clause-pinned
returns-then-is_some-clause-pinned g c = grind (arith, common_steps)
