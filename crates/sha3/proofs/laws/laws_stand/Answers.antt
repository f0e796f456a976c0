use Rattle.sha3.proofs.Examples.{offsets_are, constants_are, empty, abc}
use Rattle.sha3.proofs.Pads.{whole, least, padding-bits}
use Rattle.sha3.specs.Sized.{digest_length_lem}
use Rattle.sha3.proofs.Sizes.{digest_bytes}
use Rattle.sha3.proofs.Steps.{theta, rho, pi, chi}
use Rattle.sha3.proofs.laws.laws_stand.Goals as goal

pub returns : goal.returns
returns c =
    record {
      theta = theta;
      rho = rho;
      pi = pi;
      chi = chi;
      offsets = offsets_are;
      constants = constants_are;
      whole = whole;
      least = least;
      padding = padding-bits;
      length = digest_length_lem;
      bytes = digest_bytes;
      empty = empty;
      abc = abc;
    }
