mod UntoldLemmas
