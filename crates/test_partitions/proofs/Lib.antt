mod PlannedFacts
