use Rattle.schedule_checker.proofs.Elements.{delays_from_channels, delays_on_channel}
use Rattle.tte_units.specs.declared.frames.channel.Channel.TheVariants.{B}
use Rattle.schedule_checker.proofs.timing.delays_fit.Goals as goal
use Rattle.std.proofs.Common.{arith}

pub returns-then-delays_fit_on : goal.returns-then-delays_fit_on
returns-then-delays_fit_on c =
    let beta = c.amount-beta.result in (
      λ t. delays_from_channels c.args.beta beta c.args.place c.amount-beta.ensures.value c.beta_is_unique.ensures
          c.requires.beta
          (c.delays_fit_on.ensures.0 c.if-delays_fit_on.true) (c.delays_fit_on-then-delays_fit_on.ensures.0 t),
      λ all. c.delays_fit_on-then-delays_fit_on.ensures.1
          (delays_on_channel c.args.beta beta c.args.place c.amount-beta.ensures.value c.requires.beta all B),
    )

pub returns-else-delays_fit_on : goal.returns-else-delays_fit_on
returns-else-delays_fit_on c =
    search (arith, delays_from_channels, delays_on_channel)
