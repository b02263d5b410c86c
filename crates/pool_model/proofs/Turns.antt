-- The worked runs of many groups, and of failures, each computed by the checker.
use Rattle.std.specs.Prelude.{◌≡◌, ℕ, ◌+◌, List, [], ◌∷◌, map, replicate}
use Rattle.std.specs.List.{AllByRecursion}
use Rattle.std.proofs.Common.{refl, rules}
use Rattle.ddt_entry.specs.Keys.{Keying}
use Rattle.pool_model.specs.Pool.{lane_count}
use Rattle.pool_model.specs.Group.{Standing, lane_by_lane, lanes_in_turn, HasEachLane, IsFree, AreFresh}
use Rattle.pool_model.specs.Plain.{Task, lanes, LaneTold}
use Rattle.pool_model.specs.Run.{always_sealed, noted_course, EndsGroup, sealed_standing}
use Rattle.pool_model.specs.Worked.{new_pool, group_note}
use Rattle.pool_model.specs.WorkedTurns.{WaitingHome, TwoLanes, FailedReads, SpoiltBlock, NoRoom, CutGroup}
use Rattle.pool_model.proofs.OnLiterals.{pool_on_literals}

-- no lane has a fresh place left
used_up : AllByRecursion (λ (places : List ℕ). places ≡ []) (replicate lane_count [])
used_up = search rules

none_fresh : {s : Standing} → AreFresh (IsFree s) []
none_fresh = record { free = tt; apart = tt }

three_fresh : AreFresh (IsFree new_pool) ((32, 1) ∷ (33, 1) ∷ (34, 1) ∷ [])
three_fresh = search rules

-- a group of commands ended where its note has each lane, and its answers and fresh places are those of its course
lanes_ended : {keying : Keying} {s : Standing} {moment : ℕ} {tasks : List Task} {told : List LaneTold} →
    HasEachLane tasks told →
    (noted_course (lanes_in_turn keying) s moment tasks (group_note (s.pool.group + 1) told)).replies
    ≡ map (λ turn. turn.reply) (lane_by_lane tasks (group_note (s.pool.group + 1) told)) →
    AllByRecursion (λ places. places ≡ []) (noted_course (lanes_in_turn keying) s moment tasks (group_note (s.pool.group + 1) told)).fresh →
    AreFresh (IsFree s) (noted_course (lanes_in_turn keying) s moment tasks (group_note (s.pool.group + 1) told)).given →
    EndsGroup always_sealed (lanes_in_turn keying) s (lanes moment tasks) (group_note (s.pool.group + 1) told)
    (sealed_standing (lanes_in_turn keying) s (lanes moment tasks) (group_note (s.pool.group + 1) told) [])
lanes_ended each replies fresh free = record {
  number = refl;
  kind = refl;
  did = (refl, record { lanes = each; agrees = record { replies = replies; fresh = fresh } }, refl);
  room_is = (refl, free);
}

-- one without commands has an empty note
idle_ended : (keying : Keying) (s : Standing) →
    EndsGroup always_sealed (lanes_in_turn keying) s (lanes 1000 []) (group_note (s.pool.group + 1) [])
    (sealed_standing (lanes_in_turn keying) s (lanes 1000 []) (group_note (s.pool.group + 1) []) [])
idle_ended keying s = lanes_ended (search rules) refl used_up (search rules)

-- each search has so many steps, so that the groups are shown one by one
pub waiting_home : WaitingHome
unfolding pool_on_literals
waiting_home = record {
  notes_are = record {
    run = (
      refl,
      lanes_ended (search rules) refl used_up (search rules),
      (
        refl,
        lanes_ended (search rules) refl used_up (search rules),
        (
          refl,
          idle_ended _ _,
          (
            refl,
            idle_ended _ _,
            (
              refl,
              idle_ended _ _,
              (
                refl,
                idle_ended _ _,
                (
                  refl,
                  idle_ended _ _,
                  (
                    refl,
                    idle_ended _ _,
                    (
                      refl,
                      lanes_ended (search rules) refl used_up (search rules),
                      (
                        refl,
                        idle_ended _ _,
                        (
                          refl,
                          idle_ended _ _,
                          (
                            refl,
                            idle_ended _ _,
                            (
                              refl,
                              idle_ended _ _,
                              (
                                refl,
                                idle_ended _ _,
                                (
                                  refl,
                                  idle_ended _ _,
                                  (
                                    refl,
                                    idle_ended _ _,
                                    (
                                      refl,
                                      idle_ended _ _,
                                      (
                                        refl,
                                        (refl, refl),
                                        (
                                          refl,
                                          lanes_ended (search rules) refl used_up (search rules),
                                          tt,
                                        ),
                                      ),
                                    ),
                                  ),
                                ),
                              ),
                            ),
                          ),
                        ),
                      ),
                    ),
                  ),
                ),
              ),
            ),
          ),
        ),
      ),
    );
    all_items = refl;
    all_notes = refl;
  };
  printed = refl;
}

pub two_lanes : TwoLanes
unfolding pool_on_literals
two_lanes = record {
  notes_are = record {
    run = (
      refl,
      lanes_ended (search rules) refl used_up three_fresh,
      (
        refl,
        lanes_ended (search rules) refl used_up none_fresh,
        (
          refl,
          idle_ended _ _,
          (
            refl,
            idle_ended _ _,
            (
              refl,
              idle_ended _ _,
              (
                refl,
                idle_ended _ _,
                (
                  refl,
                  idle_ended _ _,
                  (
                    refl,
                    idle_ended _ _,
                    (
                      refl,
                      idle_ended _ _,
                      (
                        refl,
                        idle_ended _ _,
                        (
                          refl,
                          record { number = refl; kind = refl; did = (refl, refl, refl); room_is = (refl, none_fresh) },
                          (refl, (refl, refl), (refl, (refl, refl), tt)),
                        ),
                      ),
                    ),
                  ),
                ),
              ),
            ),
          ),
        ),
      ),
    );
    all_items = refl;
    all_notes = refl;
  };
  printed = refl;
}

pub failed_reads : FailedReads
unfolding pool_on_literals
failed_reads = search rules

pub spoilt_block : SpoiltBlock
unfolding pool_on_literals
spoilt_block = search rules

pub no_room : NoRoom
unfolding pool_on_literals
no_room = search rules

pub cut_group : CutGroup
cut_group = search rules
