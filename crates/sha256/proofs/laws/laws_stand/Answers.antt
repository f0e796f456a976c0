use Rattle.sha256.proofs.Schedules.{first-words, later_words}
use Rattle.sha256.specs.Sized.{of_32_bytes}
use Rattle.sha256.proofs.Shapes.{examples, least_zeros, rooted_constants, whole_blocks}
use Rattle.sha256.proofs.laws.laws_stand.Goals as goal

pub returns : goal.returns
returns c =
    record {
      zeros = least_zeros;
      blocks = whole_blocks;
      first = first-words;
      later = later_words;
      shape = of_32_bytes;
      constants = rooted_constants;
      examples = examples;
    }
