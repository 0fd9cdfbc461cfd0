-- The test of the rules holds exactly where a head and two tables keep them. Assumes nothing.
use Rattle.std.proofs.Common.{◌≤◌, List, length, take, Decides, sym, subst, arith}
use Rattle.std.specs.List.{AllByRecursion}
use Rattle.std.proofs.lemmas.List.{length-take-le}
use Rattle.std.proofs.lemmas.Bool.Decides.{Decides-and, Decides-like}
use Rattle.project.specs.declared.tables.Activity.{Activity}
use Rattle.project.specs.declared.tables.Head.{Head}
use Rattle.project.specs.declared.tables.Pair.{Pair}
use Rattle.project.specs.Project.{most_activities, most_resources, most_pairs, Proper, Sound, head_fits, sound}
use Rattle.project.proofs.Numbers.{decides_leb, decides_capacities, decides_activities}
use Rattle.project.proofs.Pairs.{decides_pairs}

decides_head : (h : Head) (acts : List Activity) (ps : List Pair) → Decides (head_fits h acts ps) ((1 ≤ h.activities) × ((h.activities ≤ most_activities) × ((h.activities ≤ length acts) × ((h.resources ≤ most_resources) × ((h.pairs ≤ most_pairs) × (h.pairs ≤ length ps))))))
decides_head h acts ps =
    Decides-and _ _ (decides_leb 1 h.activities) (Decides-and _ _ (decides_leb h.activities most_activities) (Decides-and _ _ (decides_leb h.activities (length acts)) (Decides-and _ _ (decides_leb h.resources most_resources) (Decides-and _ _ (decides_leb h.pairs most_pairs) (decides_leb h.pairs (length ps))))))

pub decides_sound : (h : Head) (acts : List Activity) (ps : List Pair) → Decides (sound h acts ps) (Sound h acts ps)
decides_sound h acts ps =
    Decides-like _
    (λ f.
    let head = f.0 in
    let capacities = f.1.0 in
    let activities = f.1.1.0 in
    let pairs = f.1.1.1 in
    let many = length-take-le h.activities acts head.1.1.0 in
    let few = length-take-le h.pairs ps head.1.1.1.1.1 in
    record {
      activities = head.1.1.0;
      pairs = head.1.1.1.1.1;
      rules = record {
        some = omega arith;
        activities = omega arith;
        resources = head.1.1.1.0;
        capacities = capacities.0;
        unused = capacities.1;
        durations = activities.0;
        demands = activities.1;
        pairs = omega arith;
        proper = subst (λ n. AllByRecursion (Proper n) (take h.pairs ps)) (sym many) pairs.0;
        once = pairs.1;
        or_few = pairs.2;
      };
    })
    (λ s.
    let rules = s.rules in
    let many = length-take-le h.activities acts s.activities in
    let few = length-take-le h.pairs ps s.pairs in (
      (omega arith, (omega arith, (s.activities, (rules.resources, (omega arith, s.pairs))))),
      (
        (rules.capacities, rules.unused),
        (
          (rules.durations, rules.demands),
          (subst (λ n. AllByRecursion (Proper n) (take h.pairs ps)) many rules.proper, rules.once, rules.or_few),
        ),
      ),
    ))
    (Decides-and _ _ (decides_head h acts ps) (Decides-and _ _ (decides_capacities h.resources h.capacities) (Decides-and _ _ (decides_activities h.capacities (take h.activities acts)) (decides_pairs h.activities (take h.pairs ps)))))
