use Rattle.thread_tests.proofs.letters.two_threads_hand_each_other_the_letters.Given as goal

abbrev pub ghosts-ran-K-PostName : goal.ghosts-ran-K-PostName
ghosts-ran-K-PostName g a = record { post = a.parts.post }

abbrev pub ghosts-ran-K-ClusterName : goal.ghosts-ran-K-ClusterName
ghosts-ran-K-ClusterName g a = record { script = a.script.now }
