use Rattle.node_threads.proofs.running.run.Given as goal

abbrev pub ghosts-run_named-K-PostName : goal.ghosts-run_named-K-PostName
ghosts-run_named-K-PostName g a = record { post = a.parts.post }

abbrev pub ghosts-run_named-K-ClusterName : goal.ghosts-run_named-K-ClusterName
ghosts-run_named-K-ClusterName g a = record { script = a.script.now }
