-- The paper's P1 to P4, computed. Assumes nothing.
use mathlib.Core.Path.{refl}
use Rattle.payload.specs.Layout.{run}
use Rattle.payload.specs.Reading.{read_of}
use Rattle.payload.specs.Cases.{cases, All, Refusals}

pub cases_hold : All cases
unfolding run read_of
cases_hold = ((refl, (refl, refl)), ((refl, (refl, refl)), ((refl, (refl, refl)), ((refl, (refl, refl)), tt))))

pub refusals_hold : Refusals
unfolding run read_of
refusals_hold =
    record { empty = refl; short = refl; long = refl; bip = refl; type = refl; padding = refl; tunnel = refl }
