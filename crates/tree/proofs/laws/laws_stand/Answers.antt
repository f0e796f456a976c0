use Rattle.tree.proofs.laws.laws_stand.Goals as goal
use Rattle.tree.proofs.Lengths.{length_rfc, length_alone}
use Rattle.tree.proofs.Paths.{path_rfc}
use Rattle.tree.proofs.Roots.{root_rfc, root_alone}
use Rattle.tree.proofs.Theorems as theorems

pub returns : goal.returns
returns c =
    record {
      root = root_rfc;
      root_alone = root_alone;
      path = path_rfc;
      path_alone = theorems.path_alone;
      length = length_rfc;
      length_alone = length_alone;
      path_length = theorems.path_length_lem;
      complete = theorems.complete;
      sound = theorems.sound;
      two_paths = theorems.two_paths;
      cases = theorems.length_cases;
    }
