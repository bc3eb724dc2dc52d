use Rattle.compression.proofs.{Growth.room_for_each_master, Times.{one_list_of_clusters, one_time_law}}
use Rattle.compression.proofs.laws.clusters_law.Goals as goal

pub returns-clause-clusters : goal.returns-clause-clusters
returns-clause-clusters c = one_list_of_clusters

pub returns-clause-time : goal.returns-clause-time
returns-clause-time c = one_time_law

pub returns-clause-room : goal.returns-clause-room
returns-clause-room c = room_for_each_master
