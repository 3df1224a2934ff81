mod FlagLaws
