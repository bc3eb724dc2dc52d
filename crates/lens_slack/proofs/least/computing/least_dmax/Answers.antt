use Rattle.{lens_slack.proofs.least_lemmas.Drift.{fixed, least, twice}, std.proofs.Common.{◌*◌, ◌+◌, ◌-◌, ◌≡◌, arith}}
use Rattle.lens_slack.proofs.least.computing.least_dmax.Goals as goal

pub returns-clause-fixed : goal.returns-clause-fixed
returns-clause-fixed c =
    let rate = c.from.ensures in
    let need = c.from-2.ensures in
    let slow = c.requires.range.rho in
    let whole : 4 * c.args.network.now.rho + (1000000000 - 4 * c.args.network.now.rho) ≡ 1000000000 = omega (arith, slow) in
    rw (rate, need)
    (fixed (4 * c.args.network.now.rho) (1000000000 - 4 * c.args.network.now.rho) c.args.need whole c.requires.some (omega (arith, slow)))

pub returns-clause-least : goal.returns-clause-least
returns-clause-least c dmax room =
    let rate = c.from.ensures in
    let need = c.from-2.ensures in
    let slow = c.requires.range.rho in
    let whole : 4 * c.args.network.now.rho + (1000000000 - 4 * c.args.network.now.rho) ≡ 1000000000 = omega (arith, slow) in
    rw (rate, need)
    (least (4 * c.args.network.now.rho) (1000000000 - 4 * c.args.network.now.rho) c.args.need whole c.requires.some (omega (arith, slow)) dmax room)

pub returns-clause-bound : goal.returns-clause-bound
returns-clause-bound c =
    let rate = c.from.ensures in
    let need = c.from-2.ensures in
    let slow = c.requires.range.rho in
    let whole : 4 * c.args.network.now.rho + (1000000000 - 4 * c.args.network.now.rho) ≡ 1000000000 = omega (arith, slow) in
    rw (rate, need)
    (twice (4 * c.args.network.now.rho) (1000000000 - 4 * c.args.network.now.rho) c.args.need whole c.requires.some (omega (arith, slow)))
